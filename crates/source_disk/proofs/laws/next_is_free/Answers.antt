use Rattle.source_disk.proofs.Holding.{next_is_free}
use Rattle.source_disk.proofs.laws.next_is_free.Goals as goal

pub returns : goal.returns
returns c = next_is_free
