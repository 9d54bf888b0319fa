use Rattle.checkpoints.proofs.Order.{add_leaves_the_count, done_adds_one}
use Rattle.checkpoints.proofs.laws.finishing_counts_one.Goals as goal

pub returns-clause-added : goal.returns-clause-added
returns-clause-added c = add_leaves_the_count

pub returns-clause-done : goal.returns-clause-done
returns-clause-done c = done_adds_one
