-- What a migration is to do next at some moment. Moments are in seconds, an interval is in minutes.
use Rattle.std.specs.Prelude.{ℕ, ◌+◌, ◌*◌, Bool, true, false, nat_le, Option, Some, None, if◌then◌else◌}
use Rattle.plan_model.specs.declared.moment.Moment.{Moment}
use Rattle.plan_model.specs.declared.moment.TheConstants.{SECONDS_PER_MINUTE}
use Rattle.plan_model.specs.declared.way.Cutover.{Cutover}
use Rattle.plan_model.specs.declared.way.Way.{Way}
use Rattle.plan_model.specs.declared.way.Way.TheVariants as Ways

-- no moment was set, or the one that was isn't after now
abbrev pub has_come : (now : Moment) → Option Moment → Bool
has_come now None = true
has_come now (Some at) = nat_le at.0 now.0

-- a cutover is set, and its moment has come
abbrev pub is_cutover_due : (now : Moment) → Option Cutover → Bool
is_cutover_due now None = false
is_cutover_due now (Some cutover) = has_come now cutover.at

-- the interval since the last copy is over
abbrev pub is_copy_due : (now last : Moment) (interval : ℕ) → Bool
is_copy_due now last interval = nat_le (last.0 + SECONDS_PER_MINUTE * interval) now.0

-- a cutover goes before a copy
abbrev pub due_way : (now last : Moment) (interval : ℕ) → Option Cutover → Way
due_way now last interval cutover = if is_cutover_due now cutover then Ways.Cutover
    else if is_copy_due now last interval then Ways.Precopy else Ways.Nothing

-- the number under which records keep the choice
abbrev pub way_number : Way → ℕ
way_number Ways.Nothing = 0
way_number Ways.Precopy = 1
way_number Ways.Cutover = 2
