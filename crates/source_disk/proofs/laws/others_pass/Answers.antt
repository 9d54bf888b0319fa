use Rattle.source_disk.proofs.Taking.{others_pass}
use Rattle.source_disk.proofs.laws.others_pass.Goals as goal

pub returns : goal.returns
returns c = others_pass
