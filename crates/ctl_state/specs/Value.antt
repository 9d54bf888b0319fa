-- What the records come to, as plain data: plans in order of number, how far each is, and
-- migrations in order of number. A plan stands at the same place in both of its lists.
use Rattle.std.specs.Prelude.{ℕ, ◌+◌, ◌-◌, ◌==◌, nat_lt, Bool, true, false, not, List, [], length, drop, count_by, Option, Some, None, is_some, slice_get, slice_set, option_map, if◌then◌else◌}
use Rattle.std.specs.List.{list_any, find, zip}
use Rattle.std.specs.List.{sum_by}
use Rattle.std.specs.Str.{bytes_eq}
use Rattle.plan_model.specs.declared.plan.Plan.{Plan}
use Rattle.plan_model.specs.declared.way.Cutover.{Cutover}
use Rattle.ctl_state.specs.declared.migration.Migration.{Migration}
use Rattle.ctl_state.specs.declared.plans.PlanCourse.{PlanCourse}
use Rattle.ctl_state.specs.Migration.{is_live, change_at}

pub record CtlValue : Type 0 where
  pub plans : List Plan
  pub courses : List PlanCourse
  pub migrations : List Migration

abbrev pub no_records : CtlValue
no_records = record { plans = []; courses = []; migrations = [] }

-- the one of a number, where numbers begin at 1
abbrev pub numbered : {X : Type 0} → List X → (number : ℕ) → Option X
numbered xs number = if number == 0 then None else slice_get xs (number - 1)

-- and that one changed
abbrev pub change_numbered : {X : Type 0} → List X → (number : ℕ) → (X → X) → List X
change_numbered xs number f = if number == 0 then xs else change_at xs (number - 1) f

abbrev pub migration_in : CtlValue → (mig : ℕ) → Option Migration
migration_in v mig = numbered v.migrations mig

abbrev pub plan_in : CtlValue → (plan : ℕ) → Option Plan
plan_in v plan = numbered v.plans plan

abbrev pub course_in : CtlValue → (plan : ℕ) → Option PlanCourse
course_in v plan = numbered v.courses plan

-- a plan of which no machine has its migration
abbrev pub new_course : PlanCourse
new_course = record { cutover = None; started = 0; live = 0 }

-- the number of the plan that has this name
abbrev pub plan_named : (plans : List Plan) (name : List ℕ) → Option ℕ
plan_named plans name =
    option_map (λ plan. plan.number) (find (λ plan. bytes_eq plan.name name) plans)

-- the number stands in the list
abbrev pub is_listed : (vms : List ℕ) (vm : ℕ) → Bool
is_listed vms vm = list_any (λ other. other == vm) vms

-- the machines of a plan that have no migration in it, in their order
abbrev pub waiting : (Plan × PlanCourse) → List ℕ
waiting p = drop p.1.started p.0.vms

-- how often a machine waits in the plan
abbrev pub waits_in : (vm : ℕ) → (Plan × PlanCourse) → ℕ
waits_in vm p = count_by (λ other. other == vm) (waiting p)

-- the migration is live and of this machine
abbrev pub works_on : (vm : ℕ) → Migration → Bool
works_on vm m = if is_live m then m.vm == vm else false

-- the number of the live migration of a machine
abbrev pub live_on : List Migration → (vm : ℕ) → Option ℕ
live_on migrations vm = option_map (λ m. m.number) (find (works_on vm) migrations)

-- the pieces of unfinished work that name a machine: plans in which it waits for its migration, and
-- migrations of it that haven't ended
unfoldable pub work_on : (plans : List Plan) → List PlanCourse → List Migration → (vm : ℕ) → ℕ
work_on plans courses migrations vm =
    sum_by (waits_in vm) (zip plans courses) + count_by (works_on vm) migrations

-- the machine is in some plan's unfinished work
abbrev pub is_at_work : CtlValue → (vm : ℕ) → Bool
is_at_work v vm = nat_lt 0 (work_on v.plans v.courses v.migrations vm)
