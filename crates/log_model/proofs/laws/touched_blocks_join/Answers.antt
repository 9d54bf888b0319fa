use Rattle.log_model.proofs.TouchedLaws.{touched_joins, untouched_stays, length-contents}
use Rattle.log_model.proofs.laws.touched_blocks_join.Goals as goal

pub returns-clause-join : goal.returns-clause-join
returns-clause-join c = touched_joins

pub returns-clause-untouched : goal.returns-clause-untouched
returns-clause-untouched c = untouched_stays

pub returns-clause-sized : goal.returns-clause-sized
returns-clause-sized c = length-contents
