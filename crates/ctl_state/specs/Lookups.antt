-- What the state keeps beside plans and migrations, so that names and machines are looked up and
-- not looked for: each is what plans and migrations say.
use Rattle.std.specs.Prelude.{◌≡◌, ℕ, ◌+◌, ◌^◌, ◌<◌, ◌≤◌, ◌==◌, List, length, Option, Some, None, if◌then◌else◌}
use Rattle.std.specs.List.{AllByRecursion}
use Rattle.std.specs.BTreeMap.{BTreeMap, get}
use Rattle.std.specs.Cmp.Lexicographic.{slice_cmp}
use Rattle.std.specs.Ordering.{nat_cmp}
use Rattle.ctl_state.specs.declared.migration.Migration.{Migration}
use Rattle.ctl_state.specs.declared.plans.PlanCourse.{PlanCourse}
use Rattle.plan_model.specs.declared.plan.Plan.{Plan}
use Rattle.ctl_state.specs.Value.{numbered, plan_named, work_on, live_on}
use Rattle.ctl_state.specs.Work.{Work}

-- no plan has more live migrations than it started
abbrev pub AreCourses : List PlanCourse → Type 0
AreCourses courses = AllByRecursion (λ course. course.live ≤ course.started) courses

-- one more machine of the plan may be counted
abbrev pub HasRoom : List PlanCourse → (plan : ℕ) → Type 0
HasRoom courses plan = (course : PlanCourse)
    → numbered courses plan ≡ Some course → course.started + 1 < 2 ^ 64

-- of a machine that isn't at work nothing is kept, of any other its live migration, if it has one
abbrev pub work_kept : (count : ℕ) → (live : Option ℕ) → Option (Option ℕ)
work_kept count live = if count == 0 then None else Some live

-- a map of the machines at work, each of which has one piece of work
pub record IsWork (plans : List Plan) (courses : List PlanCourse) (migrations : List Migration)
    (work : Work) : Type 0 where
  pub works : (vm : ℕ) → get nat_cmp work vm
      ≡ work_kept (work_on plans courses migrations vm) (live_on migrations vm)
  pub once : (vm : ℕ) → work_on plans courses migrations vm ≤ 1

-- a map of the numbers of plans by their names
abbrev pub AreNames : List Plan → BTreeMap (List ℕ) ℕ → Type 0
AreNames plans names =
    (name : List ℕ) → get (slice_cmp nat_cmp) names name ≡ plan_named plans name

pub record IsKept (plans : List Plan) (courses : List PlanCourse) (migrations : List Migration)
    (names : BTreeMap (List ℕ) ℕ) (work : Work) : Type 0 where
  pub paired : length courses ≡ length plans
  pub courses_hold : AreCourses courses
  pub names_hold : AreNames plans names
  pub work_holds : IsWork plans courses migrations work
