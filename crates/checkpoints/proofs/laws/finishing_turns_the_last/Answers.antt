use Rattle.checkpoints.proofs.Order.{last_is_finished, only_the_last_is_finished}
use Rattle.checkpoints.proofs.laws.finishing_turns_the_last.Goals as goal

pub returns-clause-last : goal.returns-clause-last
returns-clause-last c = last_is_finished

pub returns-clause-only : goal.returns-clause-only
returns-clause-only c = only_the_last_is_finished
