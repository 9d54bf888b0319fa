use Rattle.log_model.proofs.Accepted.{accepted_may_stand}
use Rattle.log_model.proofs.laws.accepted_may_stand.Goals as goal

pub returns : goal.returns
returns c = accepted_may_stand
