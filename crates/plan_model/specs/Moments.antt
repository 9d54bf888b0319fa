-- How a moment is written: a date and a time of day in UTC, each part with all of its digits. What
-- the parts say is told by the calendar and the clock, not by how a parser goes over them.
use Rattle.std.specs.Prelude.{ℕ, ◌+◌, ◌-◌, ◌*◌, Bool, ◌&&◌, ◌==◌, nat_lt, nat_le, List, length, Option, Some, None, codes, slice_index, if◌then◌else◌}
use Rattle.std.specs.List.{list_all, zip}
use Rattle.std.specs.Char.{is_ascii_digit}
use Rattle.plan_model.specs.Calendar.{is_date, days_before}
use Rattle.plan_model.specs.declared.calendar.TheConstants.{MIN_YEAR, MAX_YEAR}
use Rattle.plan_model.specs.declared.moment.TheConstants.{SECONDS_PER_DAY, SECONDS_PER_HOUR, SECONDS_PER_MINUTE}
use Rattle.plan_model.specs.declared.reading.Reading.{Reading}
use Rattle.plan_model.specs.declared.moment.Moment.{Moment}
use Rattle.plan_model.specs.declared.moment.MomentRefused.{MomentRefused}
use Rattle.plan_model.specs.declared.moment.MomentRefused.TheVariants.{Form, NoMemory}

-- a digit where this has 0, and elsewhere this very byte
abbrev pub shape : List ℕ
shape = codes "0000-00-00T00:00:00Z"

abbrev pub has_pattern : (pattern byte : ℕ) → Bool
has_pattern pattern byte = if pattern == 48 then is_ascii_digit byte else byte == pattern

abbrev pub has_shape : List ℕ → Bool
has_shape text = (length text == length shape)
    && list_all (λ p. has_pattern p.0 p.1) (zip shape text)

-- the number that two digits write, one at this index and one behind it
abbrev pub two_digits : (text : List ℕ) (at : ℕ) → ℕ
two_digits text at = (slice_index text at - 48) * 10 + (slice_index text (at + 1) - 48)

-- what a text of that shape says
abbrev pub reading : List ℕ → Reading
reading text = record {
  year = two_digits text 0 * 100 + two_digits text 2;
  month = two_digits text 5;
  day = two_digits text 8;
  hour = two_digits text 11;
  minute = two_digits text 14;
  second = two_digits text 17;
}

-- a date of the calendar, of the years that are read, at a time that a clock of 24 hours shows
abbrev pub is_moment : Reading → Bool
is_moment r = nat_le MIN_YEAR r.year && nat_le r.year MAX_YEAR && is_date r.year r.month r.day
    && nat_lt r.hour 24 && nat_lt r.minute 60 && nat_lt r.second 60

-- the seconds from 1970-01-01T00:00:00Z up to it, all days having equally many
abbrev pub seconds_before : Reading → ℕ
seconds_before r = days_before r.year r.month r.day * SECONDS_PER_DAY
    + (r.hour * SECONDS_PER_HOUR + r.minute * SECONDS_PER_MINUTE + r.second)

-- the moment that a text tells, if it is the spelling of one
abbrev pub moment_of : List ℕ → Option Moment
moment_of text = if has_shape text && is_moment (reading text)
    then Some (record { 0 = seconds_before (reading text) }) else None

-- why a text isn't read
abbrev pub moment_refusal : List ℕ → Option MomentRefused
moment_refusal text = if has_shape text && is_moment (reading text) then None else Some Form

-- want of memory has no number
abbrev pub moment_refusal_number : MomentRefused → Option ℕ
moment_refusal_number Form = Some 1
moment_refusal_number NoMemory = None

abbrev pub moment_refusal_text : MomentRefused → List ℕ
moment_refusal_text Form = codes "a moment is written YYYY-MM-DDThh:mm:ssZ"
moment_refusal_text NoMemory = codes "memory ran out"
