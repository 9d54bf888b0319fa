-- The text of a UUID, and the parts of a spelling.
use Rattle.std.proofs.Common.{◌≡◌, ◌≢◌, ℕ, ◌+◌, ◌-◌, ◌/◌, ◌%◌, ◌^◌, ◌<◌, ◌==◌, Bool, true, false, List, ◌∷◌, [], ◌++◌, All, Contains, Some, None, Result, Ok, Err, IsOk, ◌↔◌, position, length, get_or, set, map, take, drop, if◌then◌else◌, decimal, inl, inr, true≢false, arith, refl, sym, ap, ◌∙◌}
use Rattle.std.proofs.lemmas.Bool.{cases_lt}
use Rattle.std.proofs.lemmas.Bool.Decides.{nat_tests}
use Rattle.std.proofs.lemmas.Fmt.{decimal_injective, IsAscii-decimal}
use Rattle.std.proofs.lemmas.List.{length-append, length-drop, length-set, length-map, get_or-map, get_or_past, append_assoc, take_more_set, drop-set-lt, get_or_at, get_or_append_left, take_at, drop_at, drop-drop, take_rest}
use Rattle.std.proofs.lemmas.Option.{same_Some}
use Rattle.std.proofs.lemmas.List.Quantifiers.{position-Some}
use Rattle.std.proofs.lemmas.List.Sums.{position_or_len_is, split_at_first, fails_before_first, passes_at_first}
use Rattle.std.proofs.lemmas.Slice.{take-put_mid, drop-put_mid}
use Rattle.std.proofs.lemmas.Str.{IsAscii-append}
use Rattle.std.proofs.lemmas.Str.Ascii.{IsAscii-cons}
use Rattle.std.specs.Str.{IsAscii}
use Rattle.std.specs.Int.{w128, to_be_bytes, from_be_bytes}
use Rattle.std.specs.List.{position_or_len}
use Rattle.std.specs.Result.{result_ok}
use Rattle.uuid.specs.Text.{hyphenated_text, lower, hex_digit, nibble, digit_place, is_hyphen_place, parsed}
use Rattle.uuid.proofs.TextLemmas.{by_index_cong, by_index_length, by_index_at, nibble_small}
use Rattle.uuid.proofs.RoundTrips.{parses_hyphenated}
use borrow.Rule.Slice.PartMut.{put_mid}
use Rattle.change_id.specs.declared.ChangeId.{ChangeId}
use Rattle.change_id.specs.ChangeId.{slash, uuid_text, spelling, uuid_part, number_part, IsUuidText, IsIdentifier}
use Rattle.change_id.proofs.UuidBytes.{bytes_fit, to_be_bytes-from_be_bytes, from_be_bytes-to_be_bytes}

pub length-uuid_text : (uuid : ℕ) → length (uuid_text uuid) ≡ 36
unfolding uuid_text
length-uuid_text uuid = by_index_length 36 _

-- what the crate `uuid` writes for a number
pub written_uuid : (uuid : ℕ) (text : List ℕ) → text ≡ hyphenated_text lower (to_be_bytes w128 uuid)
    → text ≡ uuid_text uuid
unfolding uuid_text
written_uuid uuid text is = is

-- the text reads back as the UUID's bytes
pub parsed-uuid_text : (uuid : ℕ) → Some (to_be_bytes w128 uuid) ≡ parsed (uuid_text uuid)
unfolding uuid_text
parsed-uuid_text uuid =
    parses_hyphenated lower (to_be_bytes w128 uuid) (inl refl) refl (bytes_fit 16 uuid)

pub uuid_text_injective : (u v : ℕ) → u < 2 ^ 128 → v < 2 ^ 128 → uuid_text u ≡ uuid_text v → u ≡ v
uuid_text_injective u v u_fits v_fits same =
    let bytes : to_be_bytes w128 u ≡ to_be_bytes w128 v =
    same_Some _ _ (parsed-uuid_text u ∙ ap parsed same ∙ sym (parsed-uuid_text v)) in
    sym (from_be_bytes-to_be_bytes u u_fits) ∙ ap (from_be_bytes w128) bytes
    ∙ from_be_bytes-to_be_bytes v v_fits

no_slash_digit : (b : Bool) (d : ℕ) → d < 16 → (if b then 45 else hex_digit lower d) ≢ 47
no_slash_digit true d small same = absurd (omega arith)
no_slash_digit false d small same = grind (arith, nat_tests)

-- no slash stands in the text of a UUID
no_slash : (uuid k : ℕ) → k < 36 → get_or (uuid_text uuid) k 0 ≢ slash
unfolding uuid_text
no_slash uuid k within =
    let bytes = to_be_bytes w128 uuid in
    rw (by_index_at 36 (λ j. if is_hyphen_place j then 45 else hex_digit lower
    (nibble bytes (digit_place j))) k 0 within)
    (no_slash_digit (is_hyphen_place k) (nibble bytes (digit_place k))
    (nibble_small bytes (digit_place k)))

fails_test : (b : ℕ) → b ≢ slash → (b == slash) ≡ false
fails_test b other = grind (arith, nat_tests)

passes_test : (b : ℕ) → b ≡ slash → (b == slash) ≡ true
passes_test b same = grind (arith, nat_tests)

ascii_digit : (b : Bool) (d : ℕ) → d < 16 → (if b then 45 else hex_digit lower d) < 128
ascii_digit true d small = omega arith
ascii_digit false d small = grind (arith, nat_tests)

-- the text of a UUID is ASCII
ascii_uuid_text : (uuid : ℕ) → IsAscii (uuid_text uuid)
unfolding uuid_text
ascii_uuid_text uuid k =
    let bytes = to_be_bytes w128 uuid in
    elim (cases_lt k 36) [
      | inl within ↦ rw (by_index_at 36
          (λ j. if is_hyphen_place j then 45 else hex_digit lower (nibble bytes (digit_place j))) k
          0 within)
          (ascii_digit (is_hyphen_place k) (nibble bytes (digit_place k))
          (nibble_small bytes (digit_place k)))
      | inr past ↦ rw (get_or_past (hyphenated_text lower bytes) k 0
          (omega (arith, length-uuid_text uuid))) (omega arith)
    ]

-- so is a spelling
pub ascii_spelling : (uuid seq : ℕ) → seq < 2 ^ 64 → IsAscii (spelling uuid seq)
ascii_spelling uuid seq fits =
    IsAscii-append (uuid_text uuid) (slash ∷ decimal seq) (ascii_uuid_text uuid)
    (IsAscii-cons slash (decimal seq) (omega arith) (IsAscii-decimal seq fits))

-- the first slash of a spelling stands after its UUID
pub first_slash-spelling : (uuid seq : ℕ)
    → position_or_len (λ b. b == slash) (spelling uuid seq) ≡ 36
first_slash-spelling uuid seq =
    let front = uuid_text uuid in
    let back = slash ∷ decimal seq in
    let len = length-uuid_text uuid in
    position_or_len_is (λ b. b == slash) (front ++ back) 36 0
    (omega (arith, length-append front back))
    (λ k within. fails_test _
    (rw (get_or_append_left front back 0 k (omega arith)) (no_slash uuid k within)))
    (λ _. passes_test _ (get_or_at front slash (decimal seq) 0 36 len))

pub uuid_part-spelling : (uuid seq : ℕ) → uuid_part (spelling uuid seq) ≡ uuid_text uuid
uuid_part-spelling uuid seq =
    rw (first_slash-spelling uuid seq)
    (take_at (uuid_text uuid) (slash ∷ decimal seq) 36 (length-uuid_text uuid))

pub number_part-spelling : (uuid seq : ℕ) → number_part (spelling uuid seq) ≡ decimal seq
number_part-spelling uuid seq =
    let text = spelling uuid seq in
    let after : drop 36 text ≡ slash ∷ decimal seq =
    drop_at (uuid_text uuid) (slash ∷ decimal seq) 36 (length-uuid_text uuid) in
    rw (first_slash-spelling uuid seq) (sym (drop-drop 1 36 text) ∙ ap (drop 1) after)

pub divided-spelling : (uuid seq : ℕ) → Contains (spelling uuid seq) slash
divided-spelling uuid seq =
    let front = uuid_text uuid in
    let len = length-uuid_text uuid in (
      36,
      omega (arith, length-append front (slash ∷ decimal seq)),
      get_or_at front slash
          (decimal seq) slash 36 len,
    )

is_slash : (b : ℕ) → (b == slash) ≡ true → b ≡ slash
is_slash b passes = grind (arith, nat_tests)

-- the first slash of a text that has one
first_slash_within : (text : List ℕ) → Contains text slash
    → position_or_len (λ b. b == slash) text < length text
first_slash_within text divided =
    elim (cases_lt (position_or_len (λ b. b == slash) text) (length text)) [
      | inl within ↦ within
      | inr past ↦
          let fails = fails_before_first (λ b. b == slash) text divided.0 slash
          (omega (arith, divided.1)) in
          absurd (true≢false (sym (passes_test _ divided.2) ∙ fails))
    ]

-- a text with a slash is the spelling of its parts
pub joined : (text : List ℕ) (uuid seq : ℕ) → Contains text slash → uuid_part text ≡ uuid_text uuid
    → number_part text ≡ decimal seq
    → text ≡ spelling uuid seq
joined text uuid seq divided front back =
    let within = first_slash_within text divided in
    let at = position_or_len (λ b. b == slash) text in
    let cut : get_or text at 0 ≡ slash =
    is_slash _ (passes_at_first (λ b. b == slash) text 0 within) in
    split_at_first (λ b. b == slash) text 0 within ∙ (λ i. front i ++ cut i ∷ back i)

-- where a search for the first slash ends
pub cut_at : (text : List ℕ) (at : ℕ) → position (λ b. b == slash) text ≡ Some at
    → Contains text slash × (take at text ≡ uuid_part text)
    × (take (length text - (at + 1)) (drop (at + 1) text) ≡ number_part text)
cut_at text at found =
    let facts = position-Some (λ b. b == slash) text at slash found in
    let facts_0 = position-Some (λ b. b == slash) text at 0 found in
    let first : position_or_len (λ b. b == slash) text ≡ at =
    position_or_len_is (λ b. b == slash) text at 0 (omega (arith, facts.0)) facts_0.2
    (λ _. facts_0.1) in (
      (at, facts.0, is_slash _ facts.1),
      ap (λ (n : ℕ). take n text) (sym first),
      take_rest text (at + 1) ∙ ap (λ (n : ℕ). drop (n + 1) text) (sym first),
    )

-- a text that the crate `uuid` refuses is the text of no UUID
pub refused_uuid : {E : Type 0} (text : List ℕ) (r : Result (List ℕ) E)
    → (IsOk r ↔ ((bytes : List ℕ) × (parsed text ≡ Some bytes)))
    → result_ok r ≡ None → ¬ (IsUuidText text)
refused_uuid text (Ok bytes) ok none = absurd cc
refused_uuid text (Err e) ok none = λ is.
    absurd (true≢false (sym
    (ok.1 (to_be_bytes w128 is.0, ap parsed is.2 ∙ sym (parsed-uuid_text is.0)))))

-- the digits of a byte are those of its lowest eight bits
same_digits : (even : Bool) (b : ℕ)
    → (if even then b % 256 / 16 % 16 else b % 256 % 16) ≡ (if even then b / 16 % 16 else b % 16)
same_digits true b = omega arith
same_digits false b = omega arith

abbrev lowest_bits : ℕ → ℕ
lowest_bits b = b % 256

same_nibble : (bytes : List ℕ) (k : ℕ) → length bytes ≡ 16 → k < 32
    → nibble (map lowest_bits bytes) k ≡ nibble bytes k
same_nibble bytes k len within =
    let at : get_or (map lowest_bits bytes) (k / 2) 0 ≡ get_or bytes (k / 2) 0 % 256 =
    get_or-map lowest_bits bytes (k / 2) 0 0 (omega arith) in
    rw at (same_digits (k % 2 == 0) (get_or bytes (k / 2) 0))

digit_place_within : (k : ℕ) → k < 36 → digit_place k < 32
digit_place_within k within = grind (arith, nat_tests)

-- sixteen numbers that their own text parses to are bytes
pub parsed_bytes_fit : (bytes : List ℕ) → length bytes ≡ 16
    → Some bytes ≡ parsed (hyphenated_text lower bytes)
    → (i : ℕ) → get_or bytes i 0 < 256
parsed_bytes_fit bytes len reads i =
    let kept = map lowest_bits bytes in
    let kept_len : length kept ≡ 16 = length-map bytes lowest_bits ∙ len in
    let fit : All (λ b. b < 256) kept = λ j d within.
    rw (get_or-map lowest_bits bytes j 0 d (omega arith)) (omega arith) in
    let texts : hyphenated_text lower kept ≡ hyphenated_text lower bytes =
    by_index_cong 36 _ _ (λ k within. ap
    (λ (n : ℕ). if is_hyphen_place k then 45 else hex_digit lower n)
    (same_nibble bytes (digit_place k) len (digit_place_within k within))) in
    let same : kept ≡ bytes =
    same_Some _ _ (parses_hyphenated lower kept (inl refl) kept_len fit ∙ ap parsed texts
    ∙ sym reads) in
    elim (cases_lt i 16) [
      | inl under ↦ rw (← same) (fit i 0 (omega arith))
      | inr over ↦ rw (get_or_past bytes i 0 (omega arith)) (omega arith)
    ]

-- the text of sixteen bytes is the text of the UUID that they make
pub same_text : (text bytes : List ℕ) → length bytes ≡ 16 → Some bytes ≡ parsed text
    → text ≡ hyphenated_text lower bytes → text ≡ uuid_text (from_be_bytes w128 bytes)
unfolding uuid_text
same_text text bytes len reads is =
    let fit = parsed_bytes_fit bytes len (reads ∙ ap parsed is) in
    is ∙ ap (hyphenated_text lower) (sym (to_be_bytes-from_be_bytes bytes len fit))

-- a text that is another than that of the bytes that it parses to is the text of no UUID
pub other_text : (text bytes : List ℕ) → Some bytes ≡ parsed text
    → text ≢ hyphenated_text lower bytes → ¬ (IsUuidText text)
unfolding uuid_text
other_text text bytes reads other is =
    let same : bytes ≡ to_be_bytes w128 is.0 =
    same_Some _ _ (reads ∙ ap parsed is.2 ∙ sym (parsed-uuid_text is.0)) in
    other (is.2 ∙ ap (hyphenated_text lower) (sym same))

-- a buffer with a UUID's text at its front, then a slash and digits
pub written_text : (out uuid digits : List ℕ) (n : ℕ) → length out ≡ 57 → length uuid ≡ 36
    → n ≡ 37 + length digits
    → take n (put_mid 37 (n - 37) (set (put_mid 0 36 out uuid) 36 slash) digits)
    ≡ uuid ++ slash ∷ digits
written_text out uuid digits n out_len uuid_len long =
    let begun = put_mid 0 36 out uuid in
    let begun_len : length begun ≡ 57 =
    omega (arith, length-append uuid (drop 36 out), length-drop 36 out) in
    let front : take 36 begun ≡ uuid = take_at uuid (drop 36 out) 36 uuid_len in
    let divided : take 37 (set begun 36 slash) ≡ uuid ++ slash ∷ [] =
    take_more_set begun 36 slash (omega arith) ∙ ap (λ (xs : List ℕ). xs ++ slash ∷ []) front in
    take-put_mid 37 (n - 37) (set begun 36 slash) digits n long
    (omega (arith, length-set begun 36 slash))
    ∙ ap (λ (xs : List ℕ). xs ++ digits) divided ∙ append_assoc uuid (slash ∷ []) digits

pub written_rest : (out uuid digits : List ℕ) (n : ℕ) → length out ≡ 57 → length uuid ≡ 36
    → n ≡ 37 + length digits
    → drop n (put_mid 37 (n - 37) (set (put_mid 0 36 out uuid) 36 slash) digits) ≡ drop n out
written_rest out uuid digits n out_len uuid_len long =
    let begun = put_mid 0 36 out uuid in
    let begun_len : length begun ≡ 57 =
    omega (arith, length-append uuid (drop 36 out), length-drop 36 out) in
    drop-put_mid 37 (n - 37) (set begun 36 slash) digits n (omega arith)
    (omega (arith, length-set begun 36 slash)) (omega arith)
    ∙ drop-set-lt n begun 36 slash (omega arith)
    ∙ drop-put_mid 0 36 out uuid n (omega arith) (omega arith) uuid_len

-- two spellings of one text
pub same_identifier : (a b : ChangeId) → IsIdentifier a → IsIdentifier b
    → spelling a.uuid a.seq ≡ spelling b.uuid b.seq → a ≡ b
same_identifier a b of_a of_b same =
    let fronts : uuid_text a.uuid ≡ uuid_text b.uuid =
    sym (uuid_part-spelling a.uuid a.seq) ∙ ap uuid_part same
    ∙ uuid_part-spelling b.uuid b.seq in
    let backs : decimal a.seq ≡ decimal b.seq =
    sym (number_part-spelling a.uuid a.seq) ∙ ap number_part same
    ∙ number_part-spelling b.uuid b.seq in
    let uuids = uuid_text_injective a.uuid b.uuid of_a.ranges.uuid_fits of_b.ranges.uuid_fits fronts
    in
    let seqs = decimal_injective a.seq b.seq of_a.ranges.seq_fits of_b.ranges.seq_fits backs in
    λ i. record { uuid = uuids i; seq = seqs i }
