use Rattle.log_model.proofs.AnswerLaws.{ids_answer_between, numbered_place_is_mark}
use Rattle.log_model.proofs.laws.ids_answer_between.Goals as goal

pub returns-clause-between : goal.returns-clause-between
returns-clause-between c = ids_answer_between

pub returns-clause-same_place : goal.returns-clause-same_place
returns-clause-same_place c = numbered_place_is_mark
