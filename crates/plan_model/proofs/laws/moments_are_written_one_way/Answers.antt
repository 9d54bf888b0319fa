use Rattle.plan_model.proofs.Written.{days_are_those, moments_differ}
use Rattle.plan_model.proofs.laws.moments_are_written_one_way.Goals as goal

pub returns-clause-days : goal.returns-clause-days
returns-clause-days c = days_are_those

pub returns-clause-once : goal.returns-clause-once
returns-clause-once c = moments_differ
