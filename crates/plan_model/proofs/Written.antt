-- Two texts of one moment are one text: the day tells the date, the rest of the seconds the time of
-- day, and each part its two digits.
use Rattle.std.proofs.Common.{◌≡◌, ℕ, zero, suc, ◌+◌, ◌-◌, ◌*◌, ◌≤◌, ◌<◌, Bool, true, false, List, [], ◌∷◌, length, get_or, Some, None, refl, sym, ap, ◌∙◌, arith, lit≤, below_none, below_more, pos}
use Rattle.std.specs.Prelude.{◌==◌, ◌&&◌, nat_lt, nat_le, slice_index, if◌then◌else◌}
use Rattle.std.specs.List.{list_all, zip}
use Rattle.std.specs.Char.{is_ascii_digit}
use Rattle.std.proofs.lemmas.Bool.{and_parts, eqb-true}
use Rattle.std.proofs.lemmas.Nat.{same_from_place}
use Rattle.std.proofs.lemmas.Option.{same_Some}
use Rattle.std.proofs.lemmas.Bool.Decides.{nat_tests}
use Rattle.std.proofs.lemmas.Grind.{same_number_lists}
use Rattle.jiff_core.specs.declared.civil.date.Date.{Date}
use Rattle.jiff_core.specs.Calendar.{days_in_month, days_from_civil}
use Rattle.jiff_core.proofs.SignedLemmas.{signed_arith}
use Rattle.jiff_core.proofs.DateLemmas.{epoch_day_injective}
use Rattle.plan_model.specs.declared.moment.Moment.{Moment}
use Rattle.plan_model.specs.declared.reading.Reading.{Reading}
use Rattle.plan_model.specs.Calendar.{is_date, days_before}
use Rattle.plan_model.specs.Moments.{shape, has_pattern, has_shape, two_digits, reading, is_moment, seconds_before, moment_of}
use Rattle.plan_model.specs.Laws.{DaysAreThose, MomentsDiffer}
use Rattle.plan_model.proofs.Days.{days_are, same_natural}

-- what the tests say
date_facts : (month day most : ℕ)
    → (nat_le 1 month && nat_le month 12 && nat_le 1 day && nat_le day most) ≡ true
    → (1 ≤ month) × (month ≤ 12) × (1 ≤ day) × (day ≤ most)
date_facts month day most e = grind (arith, nat_tests)

pub days_are_those : DaysAreThose
days_are_those year month day date late =
    let facts = date_facts month day (days_in_month (pos year) month) date in
    days_are year month day late facts.2

record OnClock (hour minute second : ℕ) : Type 0 where
  hours : hour < 24
  minutes : minute < 60
  seconds : second < 60

moment_facts : (y h m s : ℕ) (date : Bool)
    → (nat_le 2000 y && nat_le y 2999 && date && nat_lt h 24 && nat_lt m 60 && nat_lt s 60) ≡ true
    → (2000 ≤ y) × (y ≤ 2999) × (date ≡ true) × (h < 24) × (m < 60) × (s < 60)
moment_facts y h m s date e = grind (arith, nat_tests)

-- of a day's number and the seconds in it
parts_same : (d h m s e i n t : ℕ) → OnClock h m s → OnClock i n t
    → d * 86400 + (h * 3600 + m * 60 + s) ≡ e * 86400 + (i * 3600 + n * 60 + t)
    → (d ≡ e) × (h ≡ i) × (m ≡ n) × (s ≡ t)
parts_same d h m s e i n t one other same =
    let hours = one.hours in let minutes = one.minutes in let seconds = one.seconds in
    let other_hours = other.hours in let other_minutes = other.minutes in
    let other_seconds = other.seconds in
    let day : d ≡ e = omega arith in
    let hour : h ≡ i = omega arith in
    let minute : m ≡ n = omega arith in
    (day, hour, minute, omega arith)

-- one day is of one date
abbrev date_of : (year month day : ℕ) → 2000 ≤ year → year ≤ 2999
    → is_date year month day ≡ true → Date
date_of year month day late early date =
    let facts = date_facts month day (days_in_month (pos year) month) date in
    record {
      year = pos year;
      month = month;
      day = day;
      year_in = (omega (arith, signed_arith), omega (arith, signed_arith));
      month_in = (facts.0, facts.1);
      day_in = (facts.2, facts.3);
    }

-- bytes
digit_facts : (b : ℕ) → is_ascii_digit b ≡ true → (48 ≤ b) × (b ≤ 57)
digit_facts b e = grind (arith, nat_tests)

digits_same : (a b c d : ℕ) → is_ascii_digit a ≡ true → is_ascii_digit b ≡ true
    → is_ascii_digit c ≡ true → is_ascii_digit d ≡ true
    → (a - 48) * 10 + (b - 48) ≡ (c - 48) * 10 + (d - 48) → (a ≡ c) × (b ≡ d)
digits_same a b c d ta tb tc td same =
    let fa = digit_facts a ta in let fb = digit_facts b tb in
    let fc = digit_facts c tc in let fd = digit_facts d td in
    (omega arith, omega arith)

-- the digits at an index and behind it
pair_same : (a b : List ℕ) (at : ℕ)
    → is_ascii_digit (slice_index a at) ≡ true → is_ascii_digit (slice_index a (at + 1)) ≡ true
    → is_ascii_digit (slice_index b at) ≡ true → is_ascii_digit (slice_index b (at + 1)) ≡ true
    → two_digits a at ≡ two_digits b at
    → (slice_index a at ≡ slice_index b at) × (slice_index a (at + 1) ≡ slice_index b (at + 1))
pair_same a b at ta tb tc td same =
    digits_same (slice_index a at) (slice_index a (at + 1)) (slice_index b at)
    (slice_index b (at + 1)) ta tb tc td same

digits_few : (a b : ℕ) → is_ascii_digit a ≡ true → is_ascii_digit b ≡ true
    → (a - 48) * 10 + (b - 48) < 100
digits_few a b ta tb = let fa = digit_facts a ta in let fb = digit_facts b tb in omega arith

pattern_at : (patterns text : List ℕ) (k : ℕ) → length text ≡ length patterns
    → list_all (λ p. has_pattern p.0 p.1) (zip patterns text) ≡ true → k < length patterns
    → has_pattern (slice_index patterns k) (slice_index text k) ≡ true
pattern_at [] text k same all inside = absurd (omega arith)
pattern_at (p ∷ ps) [] k same all inside = absurd (omega arith)
pattern_at (p ∷ ps) (b ∷ bs) zero same all inside =
    (and_parts (has_pattern p b) (list_all (λ p. has_pattern p.0 p.1) (zip ps bs)) all).0
pattern_at (p ∷ ps) (b ∷ bs) (suc k) same all inside =
    pattern_at ps bs k (omega arith)
    (and_parts (has_pattern p b) (list_all (λ p. has_pattern p.0 p.1) (zip ps bs)) all).1
    (omega arith)

record Shaped (text : List ℕ) : Type 0 where
  sized : length text ≡ 20
  written : (k : ℕ) → k < 20 → has_pattern (slice_index shape k) (slice_index text k) ≡ true

shaped : (text : List ℕ) → has_shape text ≡ true → Shaped text
shaped text e =
    let parts = and_parts (length text == length shape)
    (list_all (λ p. has_pattern p.0 p.1) (zip shape text)) e in
    let sized = eqb-true (length text) (length shape) parts.0 in
    record { sized = sized; written = λ k inside. pattern_at shape text k sized parts.1 inside }

-- a moment that a text tells
record TellsMoment (text : List ℕ) (m : Moment) : Type 0 where
  shaped_so : Shaped text
  is_one : is_moment (reading text) ≡ true
  at : seconds_before (reading text) ≡ m.0

told_where : (text : List ℕ) (m : Moment) (h r : Bool) → has_shape text ≡ h
    → is_moment (reading text) ≡ r
    → (if h && r then Some (record { 0 = seconds_before (reading text) }) else None) ≡ Some m
    → TellsMoment text m
told_where text m true true a b e = record {
  shaped_so = shaped text a;
  is_one = b;
  at = ap (λ (x : Moment). x.0)
      (same_Some (record { 0 = seconds_before (reading text) }) m e);
}
told_where text m true false a b e = cc
told_where text m false r a b e = cc

told : (text : List ℕ) (m : Moment) → moment_of text ≡ Some m → TellsMoment text m
told text m e =
    told_where text m (has_shape text) (is_moment (reading text)) refl refl e

clock_of : (r : Reading) → is_moment r ≡ true → OnClock r.hour r.minute r.second
clock_of r e =
    let facts = moment_facts r.year r.hour r.minute r.second (is_date r.year r.month r.day) e in
    record { hours = facts.3; minutes = facts.4; seconds = facts.5 }

-- two readings of one moment have the same parts
record SameParts (r s : Reading) : Type 0 where
  year : r.year ≡ s.year
  month : r.month ≡ s.month
  day : r.day ≡ s.day
  hour : r.hour ≡ s.hour
  minute : r.minute ≡ s.minute
  second : r.second ≡ s.second

same_parts : (r s : Reading) → is_moment r ≡ true → is_moment s ≡ true
    → seconds_before r ≡ seconds_before s → SameParts r s
same_parts r s one other same =
    let fr = moment_facts r.year r.hour r.minute r.second (is_date r.year r.month r.day) one in
    let fs = moment_facts s.year s.hour s.minute s.second (is_date s.year s.month s.day) other in
    let parts = parts_same (days_before r.year r.month r.day) r.hour r.minute r.second
    (days_before s.year s.month s.day) s.hour s.minute s.second
    (clock_of r one) (clock_of s other) same in
    let days : days_from_civil (pos r.year) r.month r.day
    ≡ days_from_civil (pos s.year) s.month s.day =
    sym (days_are_those r.year r.month r.day fr.2 (omega (arith, fr.0)))
    ∙ ap (λ (n : ℕ). pos n) parts.0
    ∙ days_are_those s.year s.month s.day fs.2 (omega (arith, fs.0)) in
    let date = epoch_day_injective (date_of r.year r.month r.day fr.0 fr.1 fr.2)
    (date_of s.year s.month s.day fs.0 fs.1 fs.2) days in
    record {
      year = same_natural r.year s.year date.0;
      month = date.1;
      day = date.2;
      hour = parts.1;
      minute = parts.2;
      second = parts.3;
    }

both_are : (x y p : ℕ) → (x == p) ≡ true → (y == p) ≡ true → x ≡ y
both_are x y p e f = grind (arith, nat_tests)

same_text : (a b : List ℕ) → Shaped a → Shaped b → SameParts (reading a) (reading b) → a ≡ b
same_text a b sa sb parts =
    let P : ℕ → Type 0 = λ k. get_or a k 0 ≡ get_or b k 0 in
    let ta = sa.written in let tb = sb.written in
    let years = same_from_place
    (two_digits a 0) (two_digits a 2) (two_digits b 0) (two_digits b 2) 100
    (digits_few (slice_index a 2) (slice_index a 3) (ta 2 (lit≤ tt)) (ta 3 (lit≤ tt)))
    (digits_few (slice_index b 2) (slice_index b 3) (tb 2 (lit≤ tt)) (tb 3 (lit≤ tt)))
    parts.year in
    let century = pair_same a b 0
    (ta 0 (lit≤ tt)) (ta 1 (lit≤ tt)) (tb 0 (lit≤ tt)) (tb 1 (lit≤ tt)) years.0 in
    let year = pair_same a b 2
    (ta 2 (lit≤ tt)) (ta 3 (lit≤ tt)) (tb 2 (lit≤ tt)) (tb 3 (lit≤ tt)) years.1 in
    let month = pair_same a b 5
    (ta 5 (lit≤ tt)) (ta 6 (lit≤ tt)) (tb 5 (lit≤ tt)) (tb 6 (lit≤ tt)) parts.month in
    let day = pair_same a b 8
    (ta 8 (lit≤ tt)) (ta 9 (lit≤ tt)) (tb 8 (lit≤ tt)) (tb 9 (lit≤ tt)) parts.day in
    let hour = pair_same a b 11
    (ta 11 (lit≤ tt)) (ta 12 (lit≤ tt)) (tb 11 (lit≤ tt)) (tb 12 (lit≤ tt)) parts.hour in
    let minute = pair_same a b 14
    (ta 14 (lit≤ tt)) (ta 15 (lit≤ tt)) (tb 14 (lit≤ tt)) (tb 15 (lit≤ tt)) parts.minute in
    let second = pair_same a b 17
    (ta 17 (lit≤ tt)) (ta 18 (lit≤ tt)) (tb 17 (lit≤ tt)) (tb 18 (lit≤ tt)) parts.second in
    let below_1 = below_more P 0 (below_none P) century.0 in
    let below_2 = below_more P 1 below_1 century.1 in
    let below_3 = below_more P 2 below_2 year.0 in
    let below_4 = below_more P 3 below_3 year.1 in
    let fixed_4 = both_are (slice_index a 4) (slice_index b 4) 45
    (ta 4 (lit≤ tt)) (tb 4 (lit≤ tt)) in
    let below_5 = below_more P 4 below_4 fixed_4 in
    let below_6 = below_more P 5 below_5 month.0 in
    let below_7 = below_more P 6 below_6 month.1 in
    let fixed_7 = both_are (slice_index a 7) (slice_index b 7) 45
    (ta 7 (lit≤ tt)) (tb 7 (lit≤ tt)) in
    let below_8 = below_more P 7 below_7 fixed_7 in
    let below_9 = below_more P 8 below_8 day.0 in
    let below_10 = below_more P 9 below_9 day.1 in
    let fixed_10 = both_are (slice_index a 10) (slice_index b 10) 84
    (ta 10 (lit≤ tt)) (tb 10 (lit≤ tt)) in
    let below_11 = below_more P 10 below_10 fixed_10 in
    let below_12 = below_more P 11 below_11 hour.0 in
    let below_13 = below_more P 12 below_12 hour.1 in
    let fixed_13 = both_are (slice_index a 13) (slice_index b 13) 58
    (ta 13 (lit≤ tt)) (tb 13 (lit≤ tt)) in
    let below_14 = below_more P 13 below_13 fixed_13 in
    let below_15 = below_more P 14 below_14 minute.0 in
    let below_16 = below_more P 15 below_15 minute.1 in
    let fixed_16 = both_are (slice_index a 16) (slice_index b 16) 58
    (ta 16 (lit≤ tt)) (tb 16 (lit≤ tt)) in
    let below_17 = below_more P 16 below_16 fixed_16 in
    let below_18 = below_more P 17 below_17 second.0 in
    let below_19 = below_more P 18 below_18 second.1 in
    let fixed_19 = both_are (slice_index a 19) (slice_index b 19) 90
    (ta 19 (lit≤ tt)) (tb 19 (lit≤ tt)) in
    let below_20 = below_more P 19 below_19 fixed_19 in
    same_number_lists a b (sa.sized ∙ sym sb.sized)
    (λ k inside. below_20 k (let sized = sa.sized in omega arith))

pub moments_differ : MomentsDiffer
moments_differ a b m one other =
    let ta = told a m one in
    let tb = told b m other in
    same_text a b ta.shaped_so tb.shaped_so
    (same_parts (reading a) (reading b) ta.is_one tb.is_one (ta.at ∙ sym tb.at))
