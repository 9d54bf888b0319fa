use Rattle.phase_table.proofs.Steps.{successors_are_those, ends_have_no_successor}
use Rattle.phase_table.proofs.laws.successors_are_those.Goals as goal

pub returns-clause-each : goal.returns-clause-each
returns-clause-each c = successors_are_those

pub returns-clause-ends : goal.returns-clause-ends
returns-clause-ends c = ends_have_no_successor
