use Rattle.std.proofs.Common.{true≢false, refl, sym, ◌∙◌}
use Rattle.change_id.proofs.NumberLemmas.{begins, begins_with_digit, utf8_number, number_read, ok_outcome, err_outcome}
use Rattle.change_id.proofs.parse_number.Goals as goal

pub returns-then-not-starts_above_zero : goal.returns-then-not-starts_above_zero
returns-then-not-starts_above_zero c = λ number.
    let first = begins_with_digit c.args.text.now number in
    absurd (true≢false (sym (c.if-not-starts_above_zero.ensures.1 (first.above, first.within))))

pub returns-in_err-ok : goal.returns-in_err-ok
returns-in_err-ok c =
    let no_text = err_outcome c.from_utf8.result _ _ _ c.from_utf8.ensures.cases
    (sym c.ok.ensures.value ∙ c.in_err-ok.was) in
    rw c.from_residual.ensures (λ number. no_text (utf8_number c.args.text.now number))

pub returns : goal.returns
returns c =
    let same = ok_outcome c.from_utf8.result _ _ c.in_ok-ok.field-0 c.from_utf8.ensures.cases
    (sym c.ok.ensures.value ∙ c.in_ok-ok.was) in
    let digit = c.if-not-starts_above_zero.ensures.0 refl in
    rw c.ok-2.ensures.value
    (number_read c.args.text.now c.parse.result (begins c.args.text.now digit.0 digit.1)
    (rw same.0 at c.parse.ensures.value.0))
