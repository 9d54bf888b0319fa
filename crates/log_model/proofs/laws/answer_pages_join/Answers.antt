use Rattle.log_model.proofs.AnswerPages.{answers_are_areas, answer_pages_join, all_pages_are_the_answer}
use Rattle.log_model.proofs.laws.answer_pages_join.Goals as goal

pub returns-clause-from_start : goal.returns-clause-from_start
returns-clause-from_start c = answer_pages_join

pub returns-clause-whole : goal.returns-clause-whole
returns-clause-whole c = all_pages_are_the_answer

pub returns-clause-areas : goal.returns-clause-areas
returns-clause-areas c = answers_are_areas
