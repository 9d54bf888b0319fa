use Rattle.plan_model.proofs.Accepted.{accepted_is_possible, accepted_machines_differ}
use Rattle.plan_model.proofs.laws.accepted_plans.Goals as goal

pub returns-clause-possible : goal.returns-clause-possible
returns-clause-possible c = accepted_is_possible

pub returns-clause-machines : goal.returns-clause-machines
returns-clause-machines c = accepted_machines_differ
