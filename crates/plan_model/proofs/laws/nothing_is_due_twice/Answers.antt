use Rattle.plan_model.proofs.Accepted.{nothing_is_due_twice}
use Rattle.plan_model.proofs.laws.nothing_is_due_twice.Goals as goal

pub returns : goal.returns
returns c = nothing_is_due_twice
