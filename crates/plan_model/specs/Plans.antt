-- When machines may be put into a plan of a name. Each reason looks at the whole list of names and
-- tells the first, in the list's order, to which it applies.
use Rattle.std.specs.Prelude.{ℕ, ◌+◌, Bool, true, false, ◌==◌, List, ◌++◌, length, map, count_by, nat_lt, Option, Some, None, option_map, codes, if◌then◌else◌}
use Rattle.std.specs.List.{list_any, find}
use Rattle.std.specs.Option.{option_or}
use Rattle.std.specs.Str.{bytes_eq}
use Rattle.plan_model.specs.Book.{standing_in, is_unknown, is_in_plan, is_untracked, number_of}
use Rattle.plan_model.specs.declared.book.Standing.{Standing}
use Rattle.plan_model.specs.declared.plan.Plan.{Plan}
use Rattle.plan_model.specs.declared.plan.VmFact.{VmFact}
use Rattle.plan_model.specs.declared.plan.PlanRefused.{PlanRefused}
use Rattle.plan_model.specs.declared.plan.PlanRefused.TheVariants.{Empty, UnknownVm, InPlan, NoTracking, NameTaken, Doubled, NoMemory}

-- a plan has this name
abbrev pub is_taken : (name : List ℕ) (plans : List Plan) → Bool
is_taken name plans = list_any (λ plan. bytes_eq plan.name name) plans

-- how often a name stands in the list
abbrev pub count_of : (vms : List (List ℕ)) (name : List ℕ) → ℕ
count_of vms name = count_by (λ vm. bytes_eq vm name) vms

-- A name stands twice or more. The first such name of a list is the first that stands again later.
abbrev pub is_doubled_in : (vms : List (List ℕ)) (name : List ℕ) → Bool
is_doubled_in vms name = nat_lt 1 (count_of vms name)

-- the first listed name of whose machine a test is true
abbrev pub first_that : (test : Option Standing → Bool) (known : List VmFact)
    (vms : List (List ℕ)) → Option (List ℕ)
first_that test known vms = find (λ vm. test (standing_in known vm)) vms

-- why the listed machines, one or more, may not go into a plan together
abbrev pub list_refusal : (vms : List (List ℕ)) (known : List VmFact) → Option PlanRefused
list_refusal vms known = option_or (option_map Doubled (find (is_doubled_in vms) vms))
    (option_or (option_map UnknownVm (first_that is_unknown known vms))
    (option_or (option_map InPlan (first_that is_in_plan known vms))
    (option_map NoTracking (first_that is_untracked known vms))))

abbrev pub plan_refusal : (name : List ℕ) (vms : List (List ℕ)) (known : List VmFact)
    (plans : List Plan) → Option PlanRefused
plan_refusal name vms known plans = if is_taken name plans then Some NameTaken
    else if length vms == 0 then Some Empty else list_refusal vms known

-- the number of the machine of this name
abbrev pub vm_number : (known : List VmFact) (name : List ℕ) → ℕ
vm_number known name = number_of (standing_in known name)

-- the plan of these machines, with the number after those of all plans before
abbrev pub next_plan : (name : List ℕ) (vms : List (List ℕ)) (known : List VmFact)
    (plans : List Plan) (interval : ℕ) → Plan
next_plan name vms known plans interval = record {
  number = length plans + 1;
  name = name;
  interval = interval;
  vms = map (vm_number known) vms;
}

-- the refusal keeps a copy of a name, so that want of memory may stand in its place
abbrev pub keeps_name : PlanRefused → Bool
keeps_name Empty = false
keeps_name (UnknownVm name) = true
keeps_name (InPlan name) = true
keeps_name (NoTracking name) = true
keeps_name NameTaken = false
keeps_name (Doubled name) = true
keeps_name NoMemory = false

-- want of memory has no number
abbrev pub plan_refusal_number : PlanRefused → Option ℕ
plan_refusal_number Empty = Some 1
plan_refusal_number (UnknownVm name) = Some 2
plan_refusal_number (InPlan name) = Some 3
plan_refusal_number (NoTracking name) = Some 4
plan_refusal_number NameTaken = Some 5
plan_refusal_number (Doubled name) = Some 6
plan_refusal_number NoMemory = None

abbrev pub plan_refusal_text : PlanRefused → List ℕ
plan_refusal_text Empty = codes "a plan names a machine or more"
plan_refusal_text (UnknownVm name) = codes "there is no machine " ++ name
plan_refusal_text (InPlan name) = name ++ codes " is in another plan"
plan_refusal_text (NoTracking name) = codes "the changes of " ++ name ++ codes " aren't tracked"
plan_refusal_text NameTaken = codes "another plan has the name"
plan_refusal_text (Doubled name) = name ++ codes " is named twice"
plan_refusal_text NoMemory = codes "memory ran out"
