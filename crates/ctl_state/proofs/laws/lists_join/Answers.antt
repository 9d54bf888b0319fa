use Rattle.ctl_state.proofs.FoldFacts.{lists_join}
use Rattle.ctl_state.proofs.laws.lists_join.Goals as goal

pub returns : goal.returns
returns c = lists_join
