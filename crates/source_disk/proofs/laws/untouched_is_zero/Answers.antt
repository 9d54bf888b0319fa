use Rattle.source_disk.proofs.Untouched.{untouched_is_zero}
use Rattle.source_disk.proofs.laws.untouched_is_zero.Goals as goal

pub returns : goal.returns
returns c = untouched_is_zero
