-- What is known of plan and course where a machine is the next of its plan, and of a plan that may
-- be
-- made.
use Rattle.std.proofs.Common.{◌≡◌, ℕ, ◌==◌, Bool, true, false, ◌&&◌, not, Option, Some, None, Ok, refl, ap}
use Rattle.std.specs.Prelude.{List, slice_get}
use Rattle.std.specs.Option.{option_map_or}
use Rattle.std.proofs.lemmas.Bool.{and_parts, eqb-true}
use Rattle.basics.specs.Refusal.{IsRefusedOr}
use Rattle.plan_model.specs.declared.plan.Plan.{Plan}
use Rattle.ctl_state.specs.declared.plans.PlanCourse.{PlanCourse}
use Rattle.ctl_state.specs.declared.refusal.StateRefused.{StateRefused}
use Rattle.ctl_state.specs.declared.refusal.StateRefused.TheVariants.{Strange, NoMemory}
use Rattle.ctl_state.specs.Refusal.{strange_unless}
use Rattle.ctl_state.specs.Value.{CtlValue, numbered, plan_in, course_in}
use Rattle.ctl_state.specs.MayStand.{is_next_of, is_next, may_start}

-- the plan and its course, with the machine at the place of the next one
pub record IsNext (plans : List Plan) (courses : List PlanCourse) (plan vm : ℕ) : Type 0 where
  pub known : Plan
  pub course : PlanCourse
  pub plan_is : numbered plans plan ≡ Some known
  pub course_is : numbered courses plan ≡ Some course
  pub next_is : slice_get known.vms course.started ≡ Some vm

-- a number that passes the test for another is that
pub is_that : (o : Option ℕ) (n : ℕ) → option_map_or (λ x. x == n) o false ≡ true → o ≡ Some n
is_that None n h = absurd (cc)
is_that (Some x) n h = ap (λ y. Some y) (eqb-true x n h)

next_by : (plans : List Plan) (courses : List PlanCourse) (plan vm : ℕ) (o : Option Plan)
    (q : Option PlanCourse) → numbered plans plan ≡ o → numbered courses plan ≡ q
    → option_map_or (λ known. option_map_or (λ course. is_next_of vm known course) q false) o false
    ≡ true
    → IsNext plans courses plan vm
next_by plans courses plan vm None q hp hc h = absurd (cc)
next_by plans courses plan vm (Some known) None hp hc h = absurd (cc)
next_by plans courses plan vm (Some known) (Some course) hp hc h = record {
  known = known;
  course = course;
  plan_is = hp;
  course_is = hc;
  next_is = is_that (slice_get known.vms course.started) vm h;
}

pub next_of_start : (v : CtlValue) (mig plan vm disks : ℕ) → may_start v mig plan vm disks ≡ true
    → IsNext v.plans v.courses plan vm
next_of_start v mig plan vm disks h =
    next_by v.plans v.courses plan vm (plan_in v plan) (course_in v plan) refl refl
    (and_parts (is_next v plan vm) _ (and_parts _ _ h).1).0

-- an answer Ok says that none stands twice
pub none_doubled : (b : Bool) (u : Unit {0})
    → IsRefusedOr {T = Unit {0}} {E = StateRefused} (strange_unless (not b)) NoMemory (Ok u)
    → b ≡ false
none_doubled true u h = absurd (cc)
none_doubled false u h = refl
