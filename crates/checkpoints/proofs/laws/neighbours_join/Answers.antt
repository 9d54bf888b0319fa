use Rattle.checkpoints.proofs.Order.{neighbours_join, snapshots_rise}
use Rattle.checkpoints.proofs.laws.neighbours_join.Goals as goal

pub returns-clause-join : goal.returns-clause-join
returns-clause-join c = neighbours_join

pub returns-clause-rise : goal.returns-clause-rise
returns-clause-rise c = snapshots_rise
