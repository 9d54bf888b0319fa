use Rattle.ctl_state.proofs.Effects.{effects_are_one, effects_go_on, begun_go_on}
use Rattle.ctl_state.proofs.effect.effects_are_one.Goals as goal

pub returns-clause-one : goal.returns-clause-one
returns-clause-one c = effects_are_one

pub returns-clause-goes_on : goal.returns-clause-goes_on
returns-clause-goes_on c = effects_go_on

pub returns-clause-begun : goal.returns-clause-begun
returns-clause-begun c = begun_go_on
