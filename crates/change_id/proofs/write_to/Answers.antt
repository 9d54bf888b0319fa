use Rattle.std.proofs.Common.{◌≡◌, ◌+◌, ◌-◌, ◌++◌, ◌∷◌, length, drop, rules, arith, ◌∙◌, ap}
use Rattle.std.proofs.lemmas.List.{length-take-le, length-drop, take_all}
use Rattle.uuid.specs.Text.{hyphenated_text, lower}
use Rattle.change_id.specs.ChangeId.{slash}
use Rattle.change_id.proofs.SpellingLemmas.{ascii_spelling, length-uuid_text, written_uuid, written_text, written_rest}
use Rattle.change_id.proofs.write_to.Goals as goal

pub copy_from_slice-requires : goal.copy_from_slice-requires
copy_from_slice-requires c =
    let uuid = written_uuid c.args.id.now.uuid c.as_bytes.result.now
    (c.as_bytes.ensures.value ∙ c.encode_lower-uuid.ensures.text
    ∙ ap (hyphenated_text lower) (c.hyphenated.ensures ∙ c.from_u128.ensures)) in
    let len : length c.args.out.now ≡ 57 = search rules in
    omega (
      arith,
      ap length uuid,
      length-uuid_text c.args.id.now.uuid,
      length-take-le 36
          c.args.out.now (omega arith),
    )

pub returns : goal.returns
returns c =
    let front = c.copy_from_slice.new.self in
    let tail = c.copy_from_slice-2.new.self in
    let made = c.decimal_digits-start in
    let uuid = written_uuid c.args.id.now.uuid front
    (c.copy_from_slice.ensures.after ∙ c.as_bytes.ensures.value ∙ c.encode_lower-uuid.ensures.text
    ∙ ap (hyphenated_text lower) (c.hyphenated.ensures ∙ c.from_u128.ensures)) in
    let uuid_len = ap length uuid ∙ length-uuid_text c.args.id.now.uuid in
    let made_len : length made.result.0 ≡ 20 = search rules in
    let digits_len = length-drop made.result.1 made.result.0 in
    let copied : tail ≡ drop made.result.1 made.result.0 =
    c.copy_from_slice-2.ensures.after ∙ take_all _ _ (omega arith) in
    let len : length c.args.out.now ≡ 57 = search rules in
    let end = 57 - made.result.1 in
    let long : end ≡ 37 + length tail =
    omega (arith, ap length copied, digits_len, made.ensures.start) in
    let digits = copied ∙ made.ensures.digits in
    let text = written_text c.args.out.now front tail end len uuid_len long
    ∙ (λ i. uuid i ++ slash ∷ digits i) in
    record {
      text = text;
      spells = λ counted. record {
        identifier = record {
          ranges = record { uuid_fits = omega arith; seq_fits = omega arith };
          counted = counted;
        };
        spelled = text;
      };
      ascii = rw text (ascii_spelling c.args.id.now.uuid c.args.id.now.seq (omega arith));
      rest = written_rest c.args.out.now front tail end len uuid_len long;
      fits = omega arith;
    }
