use Rattle.ctl_state.proofs.FoldFacts.{others_stay}
use Rattle.ctl_state.proofs.laws.records_change_their_own.Goals as goal

pub returns : goal.returns
returns c = others_stay
