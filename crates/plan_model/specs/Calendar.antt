-- The dates that there are and the days before them: those of jiff's calendar, for years whose
-- number is natural.
use Rattle.std.specs.Prelude.{ℕ, Bool, ◌&&◌, nat_le, pos, unsigned_abs}
use Rattle.jiff_core.specs.Calendar.{days_in_month, days_from_civil}

-- the calendar has this date
abbrev pub is_date : (year month day : ℕ) → Bool
is_date year month day = nat_le 1 month && nat_le month 12
    && nat_le 1 day && nat_le day (days_in_month (pos year) month)

-- the days from 1 January 1970 up to the date, where it isn't before that
abbrev pub days_before : (year month day : ℕ) → ℕ
days_before year month day = unsigned_abs (days_from_civil (pos year) month day)
