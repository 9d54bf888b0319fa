use Rattle.std.proofs.Common.{◌≡◌, ◌<◌, ◌≤◌, ◌*◌, ◌∙◌, ap, subst, ℕ, arith, pos, ℤ, w64, to_z, of_z}
use Rattle.std.specs.Prelude.{unsigned_abs}
use Rattle.std.specs.Int.{w8, w16}
use Rattle.std.proofs.lemmas.Int.{to_z_pos}
use Rattle.jiff_core.specs.Calendar.{days_from_civil}
use Rattle.jiff_core.proofs.SignedLemmas.{back_small}
use Rattle.plan_model.specs.Calendar.{days_before}
use Rattle.plan_model.proofs.Days.{seconds_are, date_parts, same_natural}
use Rattle.plan_model.proofs.calendar.seconds_before_date.Goals as goal
use lib.Signed.{mag}

abbrev seconds : goal.After-as_secs → ℕ
seconds c = days_before c.args.year c.args.month c.args.day * 86400

-- what jiff gave
seconds_is : (c : goal.After-as_secs) → c.as_secs.result ≡ pos (seconds c)
seconds_is c =
    let parts = date_parts c.args.year c.args.month c.args.day c.requires.date in
    let early : c.args.year ≤ 2999 = c.requires.early in
    let read = c.date-date_read.ensures in
    let y = read.0 ∙ to_z_pos w16 c.args.year (omega arith) in
    let m = same_natural _ _ (read.1 ∙ to_z_pos w8 c.args.month (omega arith)) in
    let d = same_natural _ _ (read.2 ∙ to_z_pos w8 c.args.day (omega arith)) in
    let month = same_natural _ 1 c.date.ensures.1 in
    let day = same_natural _ 1 c.date.ensures.2 in
    let epoch : days_from_civil c.date.result.year c.date.result.month c.date.result.day
    ≡ days_from_civil (pos 1970) 1 1 = rw (c.date.ensures.0, month, day) in
    seconds_are c.args.year c.args.month c.args.day
    c.date-date_read.result.year c.date-date_read.result.month c.date-date_read.result.day
    c.duration_since.result.nanos c.as_secs.result c.requires.late parts.1 y m d
    (rw epoch at c.duration_since.ensures) c.as_secs.ensures

-- and what the cast makes of it
cast_is : (c : goal.After-as_secs) → to_z w64 (of_z w64 c.as_secs.result) ≡ pos (seconds c)
cast_is c =
    let small : seconds c < 9223372036854775808 =
    subst (λ (z : ℤ). mag z < 9223372036854775808) (seconds_is c) c.as_secs.type_inv in
    ap (λ (z : ℤ). to_z w64 (of_z w64 z)) (seconds_is c) ∙ back_small w64 (pos (seconds c)) small

pub overflow_cast-result : goal.overflow_cast-result
overflow_cast-result c =
    let small : seconds c < 9223372036854775808 =
    subst (λ (z : ℤ). mag z < 9223372036854775808) (seconds_is c) c.as_secs.type_inv in
    rw (cast_is c) (tt, omega arith)

pub returns-clause-value : goal.returns-clause-value
returns-clause-value c = ap unsigned_abs (cast_is c)
