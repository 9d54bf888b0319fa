use Rattle.source_disk.proofs.Holding.{holds_the_log}
use Rattle.source_disk.proofs.laws.standing_holds.Goals as goal

pub returns : goal.returns
returns c = holds_the_log
