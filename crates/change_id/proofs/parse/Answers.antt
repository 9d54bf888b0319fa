use Rattle.std.proofs.Common.{Ok, sym, ◌∙◌, rules}
use Rattle.change_id.specs.ChangeId.{IsAnswer}
use Rattle.change_id.proofs.AnswerLemmas.{one_answer, spelled_by_parts}
use Rattle.change_id.proofs.parse.Goals as goal

pub returns-in_err-front-clause-spelled : goal.returns-in_err-front-clause-spelled
returns-in_err-front-clause-spelled c =
    let answer : IsAnswer c.args.text.now c.from_residual.result = search rules in
    λ id spells. one_answer c.args.text.now _ (Ok id) answer spells

pub returns-in_err-uuid-clause-spelled : goal.returns-in_err-uuid-clause-spelled
returns-in_err-uuid-clause-spelled c =
    let answer : IsAnswer c.args.text.now c.from_residual-in_err-uuid.result = search rules in
    λ id spells. one_answer c.args.text.now _ (Ok id) answer spells

pub returns-in_err-seq-clause-spelled : goal.returns-in_err-seq-clause-spelled
returns-in_err-seq-clause-spelled c =
    let answer : IsAnswer c.args.text.now c.from_residual-in_err-seq.result = search rules in
    λ id spells. one_answer c.args.text.now _ (Ok id) answer spells

pub returns-clause-answer : goal.returns-clause-answer
returns-clause-answer c =
    let parts = rw c.in_ok-front.ensures.ok_part at c.split_at_slash.ensures in
    let uuid = rw c.in_ok-uuid.ensures.ok_part at c.parse_uuid.ensures in
    let number = rw c.in_ok-seq.ensures.ok_part at c.parse_number.ensures in
    spelled_by_parts c.args.text.now c.in_ok-uuid.uuid c.in_ok-seq.seq (search rules) number.0
    (search rules)
    parts.0 (sym parts.1 ∙ uuid) (sym parts.2 ∙ number.1)

pub returns-clause-spelled : goal.returns-clause-spelled
returns-clause-spelled c =
    λ id spells. one_answer c.args.text.now
    (Ok (record { uuid = c.in_ok-uuid.uuid; seq = c.in_ok-seq.seq })) (Ok id)
    (returns-clause-answer c) spells
