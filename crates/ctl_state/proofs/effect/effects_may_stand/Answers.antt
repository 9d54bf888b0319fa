use Rattle.ctl_state.proofs.PhaseStands.{phases_may_stand, clean_ups_may_stand}
use Rattle.ctl_state.proofs.effect.effects_may_stand.Goals as goal

pub returns-clause-phases : goal.returns-clause-phases
returns-clause-phases c = phases_may_stand

pub returns-clause-clean_ups : goal.returns-clause-clean_ups
returns-clause-clean_ups c = clean_ups_may_stand
