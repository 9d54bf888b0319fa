use Rattle.std.proofs.Common.{true, false, sym, ap, ◌∙◌}
use Rattle.std.specs.Prelude.{is_some}
use Rattle.fast_float.specs.Text.{scan}
use Rattle.serde_json.specs.Read.{number_of, number_from}
use Rattle.cmd_json.proofs.NumberLemmas.{number_of-minus, number_of-plain}
use Rattle.cmd_json.proofs.numbers.is_any_number.Goals as goal

pub returns-in-Some : goal.returns-in-Some
returns-in-Some c =
    let behind = c.in-Some.ensures in
    c.is_negative.ensures
    ∙ ap (λ p. is_some (number_from true p)) (c.scan.ensures.parts ∙ ap scan behind.1)
    ∙ ap is_some (sym (number_of-minus c.as_bytes.result.now behind.0))
    ∙ ap (λ s. is_some (number_of s)) c.as_bytes.ensures.value

pub returns-in-None : goal.returns-in-None
returns-in-None c =
    let same = c.as_bytes-in-None.ensures.value ∙ sym c.as_bytes.ensures.value in
    c.is_unsigned.ensures
    ∙ ap (λ p. is_some (number_from false p)) (c.scan-in-None.ensures.parts ∙ ap scan same)
    ∙ ap is_some (sym (number_of-plain c.as_bytes.result.now c.in-None.ensures))
    ∙ ap (λ s. is_some (number_of s)) c.as_bytes.ensures.value
