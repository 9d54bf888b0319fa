use Rattle.checkpoints.proofs.Order.{finished_is_paused_or_succeeded, succeeded_stays}
use Rattle.checkpoints.proofs.laws.calls_move_the_phase.Goals as goal

pub returns-clause-done : goal.returns-clause-done
returns-clause-done c = finished_is_paused_or_succeeded

pub returns-clause-end : goal.returns-clause-end
returns-clause-end c = succeeded_stays
