use Rattle.source_vm.proofs.Additions.{additions_follow}
use Rattle.source_vm.proofs.laws.additions_follow.Goals as goal

pub returns : goal.returns
returns c = additions_follow
