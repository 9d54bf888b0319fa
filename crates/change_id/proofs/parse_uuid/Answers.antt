use Rattle.std.proofs.Common.{◌≡◌, Some, length, true≢false, sym, ◌∙◌, rules}
use Rattle.std.proofs.lemmas.Slice.Eq.{bytes_eq-Decides}
use Rattle.uuid.specs.Text.{hyphenated_text, lower, parsed}
use Rattle.change_id.proofs.NumberLemmas.{if_ok_outcome}
use Rattle.change_id.proofs.SpellingLemmas.{refused_uuid, same_text, other_text}
use Rattle.change_id.proofs.parse_uuid.Goals as goal

pub returns-in_err-uuid : goal.returns-in_err-uuid
returns-in_err-uuid c =
    rw c.from_residual.ensures
    (refused_uuid c.args.text.now c.try_parse_ascii.result c.try_parse_ascii.ensures.ok
    (sym c.ok.ensures.value ∙ c.in_err-uuid.was))

pub returns-then-eq : goal.returns-then-eq
returns-then-eq c =
    let bytes = c.in_ok-uuid.uuid in
    let reads : Some bytes ≡ parsed c.args.text.now =
    if_ok_outcome c.try_parse_ascii.result (λ u. Some u ≡ parsed c.args.text.now) bytes
    c.try_parse_ascii.ensures.bytes (sym c.ok.ensures.value ∙ c.in_ok-uuid.was) in
    let len : length bytes ≡ 16 = search rules in
    let same : c.args.text.now ≡ hyphenated_text lower bytes = search rules in
    rw c.as_u128.ensures (same_text c.args.text.now bytes len reads same)

pub returns-else-eq : goal.returns-else-eq
returns-else-eq c =
    let bytes = c.in_ok-uuid.uuid in
    let reads : Some bytes ≡ parsed c.args.text.now =
    if_ok_outcome c.try_parse_ascii.result (λ u. Some u ≡ parsed c.args.text.now) bytes
    c.try_parse_ascii.ensures.bytes (sym c.ok.ensures.value ∙ c.in_ok-uuid.was) in
    other_text c.args.text.now bytes reads (λ same.
    let told : c.as_bytes.result.now ≡ c.args.text.now = search rules in
    absurd (true≢false (sym ((bytes_eq-Decides _ _).1 told) ∙ (sym c.eq.ensures ∙ c.if-eq.false))))
