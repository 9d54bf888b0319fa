-- The cutover of a plan that isn't refused may be kept.
use Rattle.std.proofs.Common.{◌≡◌, ℕ, ◌==◌, ◌&&◌, ◌||◌, Bool, true, false, [], ◌∷◌, Option, Some, None, is_some, refl, ap, ◌∙◌, sym, arith}
use Rattle.std.specs.Prelude.{nat_lt, if◌then◌else◌}
use Rattle.std.specs.Option.{option_map_or}
use Rattle.std.proofs.lemmas.Bool.Decides.{nat_tests}
use Rattle.std.proofs.lemmas.Option.{none-some}
use Rattle.answers.specs.declared.refusal.Refusal.TheVariants.{UnknownPlan, NotStarted, Ended}
use Rattle.plan_model.specs.declared.moment.Moment.{Moment}
use Rattle.record_codec.specs.declared.record.Record.TheVariants.{CutoverSet}
use Rattle.ctl_state.specs.declared.plans.PlanCourse.{PlanCourse}
use Rattle.ctl_state.specs.Value.{CtlValue, course_in, plan_named}
use Rattle.record_keeping.specs.Keeping.{MayBeKept}
use Rattle.record_keeping.proofs.KeepLemmas.{one_may}
use Rattle.plan_commands.specs.Laws.{CutoversMayBeKept}
use Rattle.plan_commands.specs.commands.Cutover.{course_refusal, cutover_refusal_of, seconds_of}

some_live : (started live : ℕ) → (if started == 0 then Some NotStarted
    else if live == 0 then Some Ended else None) ≡ None → nat_lt 0 live ≡ true
some_live started live h = by (started == 0) (live == 0) refl h
  where
    by : (a b : Bool) → (live == 0) ≡ b → (if a then Some NotStarted
        else if b then Some Ended else None) ≡ None → nat_lt 0 live ≡ true
    by true b e h = absurd (none-some NotStarted (sym h))
    by false true e h = absurd (none-some Ended (sym h))
    by false false e h = grind (arith, nat_tests)

is_live : (v : CtlValue) (plan : ℕ) → cutover_refusal_of plan v ≡ None
    → option_map_or (λ course. nat_lt 0 course.live) (course_in v plan) false ≡ true
is_live v plan none = by (course_in v plan) none
  where
    by : (o : Option PlanCourse) → option_map_or course_refusal o (Some UnknownPlan) ≡ None
        → option_map_or (λ course. nat_lt 0 course.live) o false ≡ true
    by None h = absurd (none-some UnknownPlan (sym h))
    by (Some course) h = some_live course.started course.live h

-- a moment that isn't named is kept as 0
none_is_0 : (at : Option Moment) → is_some at ≡ false → seconds_of at ≡ 0
none_is_0 None h = refl
none_is_0 (Some moment) h = cc

has_or_0 : (at : Option Moment) → (is_some at || seconds_of at == 0) ≡ true
has_or_0 None = refl
has_or_0 (Some moment) = refl

pub cutovers_may_be_kept : CutoversMayBeKept
cutovers_may_be_kept v plan at none = by (plan_named v.plans plan) none
  where
    by : (o : Option ℕ)
        → option_map_or (λ number. cutover_refusal_of number v) o (Some UnknownPlan) ≡ None
        → MayBeKept v (option_map_or
        (λ number. CutoverSet number (is_some at) (seconds_of at) ∷ []) o [])
    by None none = absurd (none-some UnknownPlan (sym none))
    by (Some number) none = one_may v (CutoverSet number (is_some at) (seconds_of at))
        (ap (λ b. b && (is_some at || seconds_of at == 0)) (is_live v number none) ∙ has_or_0 at)
        (none_is_0 at)
