use Rattle.change_id.proofs.Numbers.{numbers_have_no_gap, numbers_differ}
use Rattle.log_model.specs.Marks.{reading_of}
use Rattle.log_model.proofs.Later.{numbered_place_gives}
use Rattle.log_model.proofs.laws.numbers_have_no_gap.Goals as goal

pub returns-clause-each : goal.returns-clause-each
returns-clause-each c = λ d. numbers_have_no_gap (reading_of d)

pub returns-clause-once : goal.returns-clause-once
returns-clause-once c = λ d. numbers_differ (reading_of d)

pub returns-clause-place : goal.returns-clause-place
returns-clause-place c = numbered_place_gives
