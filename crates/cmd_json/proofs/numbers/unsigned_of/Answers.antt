use Rattle.std.proofs.Common.{false, drop, option_and_then, sym, ap, ◌∙◌}
use Rattle.fast_float.specs.Text.{scan}
use Rattle.serde_json.specs.Find.{as_u64}
use Rattle.serde_json.specs.Read.{number_of, number_from}
use Rattle.cmd_json.proofs.NumberLemmas.{as_u64-negative, number_of-minus, number_of-plain}
use Rattle.cmd_json.proofs.numbers.unsigned_of.Goals as goal

pub returns-in-Some : goal.returns-in-Some
returns-in-Some c =
    let text = c.as_bytes.result.now in
    as_u64-negative (scan (drop 1 text))
    ∙ ap (option_and_then as_u64) (sym (number_of-minus text c.in-Some.ensures.0))
    ∙ ap (λ s. option_and_then as_u64 (number_of s)) c.as_bytes.ensures.value

pub returns-in-None : goal.returns-in-None
returns-in-None c =
    let text = c.as_bytes.result.now in
    let same = c.as_bytes-in-None.ensures.value ∙ sym c.as_bytes.ensures.value in
    c.unsigned.ensures
    ∙ ap (λ p. option_and_then as_u64 (number_from false p))
    (c.scan.ensures.parts ∙ ap scan same)
    ∙ ap (option_and_then as_u64) (sym (number_of-plain text c.in-None.ensures))
    ∙ ap (λ s. option_and_then as_u64 (number_of s)) c.as_bytes.ensures.value
