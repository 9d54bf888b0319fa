use Rattle.change_tracker.proofs.AnswerPages.{answer_pages_join}
use Rattle.change_tracker.proofs.laws.answer_pages_join.Goals as goal

pub returns : goal.returns
returns c = answer_pages_join
