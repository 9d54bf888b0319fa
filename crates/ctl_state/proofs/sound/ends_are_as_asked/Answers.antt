use Rattle.ctl_state.proofs.Cancels.{cancels_are_asked, completed_is_whole, cancelled_where_asked}
use Rattle.ctl_state.proofs.sound.ends_are_as_asked.Goals as goal

pub returns-clause-cancels : goal.returns-clause-cancels
returns-clause-cancels c = cancels_are_asked

pub returns-clause-complete : goal.returns-clause-complete
returns-clause-complete c = completed_is_whole

pub returns-clause-cancelled : goal.returns-clause-cancelled
returns-clause-cancelled c = cancelled_where_asked
