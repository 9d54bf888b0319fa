-- Days before a date of the years from 1970 on, in jiff's words and as natural numbers.
use Rattle.std.proofs.Common.{◌≡◌, ℕ, ◌*◌, ◌≤◌, true, inl, inr, sym, ap, ◌∙◌, arith, rules, refl, pos, negsuc, ℤ, unsigned_abs}
use Rattle.std.specs.Prelude.{◌-ℤ◌, ◌*ℤ◌, ◌/◌, int_div}
use Rattle.std.proofs.Math.IntN.{pos-*ℤ-pos}
use Rattle.std.proofs.lemmas.Bool.Decides.{nat_tests}
use Rattle.std.proofs.lemmas.Bool.{cases_lt}
use Rattle.jiff_core.specs.Calendar.{day_count, days_from_civil, IsCivilDate}
use Rattle.jiff_core.proofs.CalendarLemmas.{days_in_month_bounds, day_count-epoch, days_from_civil-day_count, day_count-day_of_year, day_count-lt_year}
use Rattle.jiff_core.proofs.SignedLemmas.{signed_arith}
use Rattle.plan_model.specs.Calendar.{is_date, days_before}
use borrow.Author.Differences.{up, down}

first_of_1970 : IsCivilDate (pos 1970) 1 1
first_of_1970 = search rules

-- no year from 1970 on begins before it
year_begins : (year : ℕ) → 1970 ≤ year → 4_371_953 ≤ day_count (pos year) 1 1
year_begins year late = elim (cases_lt 1970 year) [
  | inl later ↦
      let before = day_count-lt_year (pos 1970) 1 1 (pos year) 1 1 first_of_1970 (omega arith)
      (omega (arith, signed_arith)) in
      omega (arith, day_count-epoch)
  | inr earlier ↦
      let same : year ≡ 1970 = omega arith in rw same (omega (arith, day_count-epoch))
]

counted : (year month day : ℕ) → 1970 ≤ year → 1 ≤ day
    → 4_371_953 ≤ day_count (pos year) month day
counted year month day late some =
    omega (arith, year_begins year late, day_count-day_of_year (pos year) month day some)

natural : (z : ℤ) → down z ≤ up z → pos (unsigned_abs z) ≡ z
natural (pos n) late = refl
natural (negsuc n) late = absurd (omega (arith, signed_arith))

-- so nothing is lost by leaving out the sign
pub days_are : (year month day : ℕ) → 1970 ≤ year → 1 ≤ day
    → pos (days_before year month day) ≡ days_from_civil (pos year) month day
days_are year month day late some =
    natural (days_from_civil (pos year) month day)
    (omega (
      arith,
      counted year month day late some,
      days_from_civil-day_count (pos year) month day,
    ))

epoch_is : days_from_civil (pos 1970) 1 1 ≡ pos 0
epoch_is =
    omega (arith, signed_arith, days_from_civil-day_count (pos 1970) 1 1, day_count-epoch)

less_none : (n : ℕ) → pos n -ℤ pos 0 ≡ pos n
less_none n = omega (arith, signed_arith)

in_seconds : (n : ℕ) → n * 86400000000000 / 1000000000 ≡ n * 86400
in_seconds n = omega arith

-- a day number in nanoseconds, and these in seconds
quotient : (n : ℕ) → int_div (pos n *ℤ pos 86400000000000) (pos 1000000000) ≡ pos (n * 86400)
quotient n =
    ap (λ (z : ℤ). int_div z (pos 1000000000)) (pos-*ℤ-pos n 86400000000000)
    ∙ ap (λ (k : ℕ). pos k) (in_seconds n)

-- what jiff counts from the first of 1970 up to a date
pub seconds_are : (year month day : ℕ) (y : ℤ) (m d : ℕ) (nanos seconds : ℤ)
    → 1970 ≤ year → 1 ≤ day → y ≡ pos year → m ≡ month → d ≡ day
    → nanos ≡ (days_from_civil y m d -ℤ days_from_civil (pos 1970) 1 1) *ℤ pos 86400000000000
    → seconds ≡ int_div nanos (pos 1000000000)
    → seconds ≡ pos (days_before year month day * 86400)
seconds_are year month day y m d nanos seconds late some ey em ed en es =
    let n = days_before year month day in
    let days : days_from_civil y m d ≡ pos n =
    rw (ey, em, ed) (sym (days_are year month day late some)) in
    let count : nanos ≡ pos n *ℤ pos 86400000000000 =
    en ∙ ap (λ (z : ℤ). z *ℤ pos 86400000000000)
    (ap (λ (z : ℤ). z -ℤ days_from_civil (pos 1970) 1 1) days
    ∙ ap (λ (z : ℤ). pos n -ℤ z) epoch_is ∙ less_none n) in
    es ∙ ap (λ (z : ℤ). int_div z (pos 1000000000)) count ∙ quotient n

pub same_natural : (m n : ℕ) → pos m ≡ pos n → m ≡ n
same_natural m n e = ap unsigned_abs e

pub date_parts : (year month day : ℕ) → is_date year month day ≡ true
    → (month ≤ 12) × (1 ≤ day) × (day ≤ 31)
date_parts year month day date =
    let most = days_in_month_bounds (pos year) month in grind (arith, nat_tests)
