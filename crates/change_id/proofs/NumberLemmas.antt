-- What `parse` reads of a text that begins with a digit above 0.
use Rattle.std.proofs.Common.{◌≡◌, ◌≢◌, ℕ, ◌+◌, ◌-◌, ◌/◌, ◌%◌, ◌^◌, ◌≤◌, ◌<◌, List, [], ◌∷◌, ◌++◌, inl, inr, MatchOption, Some, None, Result, Ok, Err, IfOk, length, get_or, set, drop, decimal, arith, sym, ap, subst, ◌∙◌}
use Rattle.std.proofs.lemmas.Bool.{cases_lt}
use Rattle.std.proofs.lemmas.Fmt.{decimal_digit, decimal_step, decimal_nonempty, length-decimal-le, first_decimal, decimal-digits_value, digits_decimal, parse-decimal, IsAscii-decimal}
use Rattle.std.proofs.lemmas.List.{append_assoc, length-append, length-drop, length_push, drop-set}
use Rattle.std.proofs.lemmas.Str.{IsUtf8-from_ascii}
use Rattle.std.proofs.lemmas.Str.Parse.{IsNumeralModel, numerals_by_value, tells_digits, digit_at, parse_plain}
use Rattle.std.specs.Result.{result_ok, MatchResult}
use Rattle.std.specs.Str.{IsUtf8}
use Rattle.std.specs.Str.Parse.{AllDigits, digits_value, ParsesUnsigned}
use Rattle.change_id.specs.ChangeId.{IsNumberText}

numerals : IsNumeralModel (AllDigits 10) (digits_value 10)
numerals = numerals_by_value (AllDigits 10) tells_digits

-- the first byte of a number's text
pub record BeginsWithDigit (text : List ℕ) : Type 0 where
  pub nonempty : 0 < length text
  pub above : 49 ≤ get_or text 0 0
  pub within : get_or text 0 0 ≤ 57

pub begins : (text : List ℕ) → 49 ≤ get_or text 0 0 → get_or text 0 0 ≤ 57 → BeginsWithDigit text
begins [] above within = absurd (omega arith)
begins (b ∷ rest) above within = record { nonempty = omega arith; above = above; within = within }

pub begins_with_digit : (text : List ℕ) → IsNumberText text → BeginsWithDigit text
begins_with_digit text number =
    let n = number.0 in
    let digits : AllDigits 10 (decimal n) = digits_decimal numerals n number.2 in
    let nonempty = decimal_nonempty n number.2 in
    let first = digit_at (decimal n) 0 digits nonempty in
    let above = first_decimal n number.1 number.2 in
    rw number.3 (record { nonempty = nonempty; above = omega arith; within = first.1 })

pub utf8_number : (text : List ℕ) → IsNumberText text → IsUtf8 text
utf8_number text number =
    rw number.3 (IsUtf8-from_ascii (decimal number.0) (IsAscii-decimal number.0 number.2))

-- what was read has just this text
read_number : (E : Type 0) (text : List ℕ) (n : ℕ) → BeginsWithDigit text
    → ParsesUnsigned {E = E} 64 10 text (Ok n) → (1 ≤ n) × (text ≡ decimal n)
read_number E text n begins parses =
    let plain : get_or text 0 0 ≢ 43 = λ same. omega (arith, begins.above) in
    let read = parse_plain numerals {E = E} 64 text (Ok n) parses plain in
    let back : decimal (digits_value 10 text) ≡ text =
    decimal-digits_value numerals text read.0.0 read.0.1
    (λ same. absurd (omega (arith, begins.above))) read.0.2 in
    let same : text ≡ decimal n = sym (ap decimal read.1 ∙ back) in (
      elim (cases_lt 0 n) [
        | inl counted ↦ counted
        | inr none ↦
            let zero_text : text ≡ 48 ∷ [] =
            same ∙ ap decimal (omega arith) ∙ decimal_digit 0 (omega arith) in
            absurd (omega (arith, begins.above, ap (λ (l : List ℕ). get_or l 0 0) zero_text))
      ],
      same,
    )

pub number_read : {E : Type 0} (text : List ℕ) (r : Result ℕ E) → BeginsWithDigit text
    → ParsesUnsigned 64 10 text r
    → MatchOption (result_ok r) (¬ (IsNumberText text)) (λ n. (1 ≤ n) × (text ≡ decimal n))
number_read {E} text (Ok n) begins parses = read_number E text n begins parses
number_read {E} text (Err e) begins parses = λ number.
    let same : ◌≡◌ {A = Result ℕ E} (Err e) (Ok number.0) =
    parse-decimal 64 number.0 text (Err e) number.2 number.2 number.3 parses in cc

-- what a clause on both outcomes says of the one that came
pub ok_outcome : {S E : Type 0} (r : Result S E) (P : S → Type 0) (Q : E → Type 0) (s : S)
    → MatchResult r P Q → result_ok r ≡ Some s → P s
ok_outcome (Ok x) P Q s h was = let same : x ≡ s = cc in subst P same h
ok_outcome (Err e) P Q s h was = absurd cc

pub err_outcome : {S E : Type 0} (r : Result S E) (P : S → Type 0) (Q : Type 0) (V : E → Type 0)
    → MatchResult r P (λ e. Q × V e) → result_ok r ≡ None → Q
err_outcome (Ok x) P Q V h was = absurd cc
err_outcome (Err e) P Q V h was = h.0

pub if_ok_outcome : {S E : Type 0} (r : Result S E) (P : S → Type 0) (s : S) → IfOk r P
    → result_ok r ≡ Some s → P s
if_ok_outcome (Ok x) P s h was = let same : x ≡ s = cc in subst P same h
if_ok_outcome (Err e) P s h was = absurd cc

-- a number of two digits or more leaves room for the next of them, in twenty
pub room_for_digits : (number rest : ℕ) (digits : List ℕ) (start : ℕ) → number < 2 ^ 64
    → rest < 2 ^ 64 → 10 ≤ rest
    → length digits ≡ 20 → decimal number ≡ decimal rest ++ drop (start + 1) digits → 1 ≤ start
room_for_digits number rest digits start fits rest_fits large len so_far =
    let rest_len = ap length (decimal_step rest large rest_fits)
    ∙ length_push (decimal (rest / 10)) (48 + rest % 10) in
    let front = decimal_nonempty (rest / 10) (omega arith) in
    let whole = length-decimal-le 20 number (omega arith) (omega arith) fits in
    let sum = ap length so_far ∙ length-append (decimal rest) (drop (start + 1) digits) in
    omega (arith, rest_len, front, whole, sum, length-drop (start + 1) digits)

-- the last digit of what is left, before those that stand already
pub last_digit : (number rest : ℕ) (digits : List ℕ) (start : ℕ) → 10 ≤ rest → rest < 2 ^ 64
    → 1 ≤ start → start < length digits
    → decimal number ≡ decimal rest ++ drop (start + 1) digits
    → decimal number ≡ decimal (rest / 10) ++ drop (start - 1 + 1)
    (set digits start (48 + rest % 10))
last_digit number rest digits start large fits room within so_far =
    let digit = 48 + rest % 10 in
    let place : start ≡ start - 1 + 1 = omega arith in
    let written : digit ∷ drop (start + 1) digits ≡ drop (start - 1 + 1) (set digits start digit) =
    sym (drop-set digits start digit within)
    ∙ ap (λ (k : ℕ). drop k (set digits start digit)) place in
    so_far ∙ ap (λ (ds : List ℕ). ds ++ drop (start + 1) digits) (decimal_step rest large fits)
    ∙ append_assoc (decimal (rest / 10)) (digit ∷ []) (drop (start + 1) digits)
    ∙ ap (λ (ds : List ℕ). decimal (rest / 10) ++ ds) written

-- the first digit, before all others
pub first_digit : (number rest : ℕ) (digits : List ℕ) (start : ℕ) → rest < 10
    → start < length digits
    → decimal number ≡ decimal rest ++ drop (start + 1) digits
    → drop start (set digits start (48 + rest)) ≡ decimal number
first_digit number rest digits start small within so_far =
    drop-set digits start (48 + rest) within
    ∙ sym (so_far ∙ ap (λ (ds : List ℕ). ds ++ drop (start + 1) digits) (decimal_digit rest small))
