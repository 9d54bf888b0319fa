use Rattle.log_model.proofs.LinkLaws.{calls_alone}
use Rattle.log_model.proofs.laws.calls_alone.Goals as goal

pub returns : goal.returns
returns c = calls_alone
