use Rattle.sector_model.proofs.Touched.{touched_are_met}
use Rattle.sector_model.proofs.laws.touched_blocks_are_met.Goals as goal

pub returns : goal.returns
returns c = touched_are_met
