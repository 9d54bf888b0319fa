use Rattle.change_id.proofs.Numbers.{numbers_have_no_gap, numbers_differ}
use Rattle.change_id.proofs.numbers_have_no_gap.Goals as goal

pub returns-clause-each : goal.returns-clause-each
returns-clause-each g c = numbers_have_no_gap

pub returns-clause-once : goal.returns-clause-once
returns-clause-once g c = numbers_differ
