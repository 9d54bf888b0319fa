use Rattle.ctl_state.proofs.FoldFacts.{goes_on, stops}
use Rattle.ctl_state.proofs.laws.states_go_on.Goals as goal

pub returns-clause-on : goal.returns-clause-on
returns-clause-on c = goes_on

pub returns-clause-stop : goal.returns-clause-stop
returns-clause-stop c = stops
