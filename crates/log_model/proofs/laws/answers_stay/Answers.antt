use Rattle.log_model.proofs.AnswerLaws.{answers_stay}
use Rattle.log_model.proofs.laws.answers_stay.Goals as goal

pub returns : goal.returns
returns c = answers_stay
