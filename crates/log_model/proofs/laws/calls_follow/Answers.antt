use Rattle.log_model.proofs.LinkLaws.{calls_follow, reads_are_part}
use Rattle.log_model.proofs.laws.calls_follow.Goals as goal

pub returns-clause-in_a_row : goal.returns-clause-in_a_row
returns-clause-in_a_row c = calls_follow

pub returns-clause-reads : goal.returns-clause-reads
returns-clause-reads c = reads_are_part
