use Rattle.change_id.proofs.AnswerLemmas.{one_answer}
use Rattle.change_id.proofs.one_answer.Goals as goal

pub returns : goal.returns
returns c = one_answer
