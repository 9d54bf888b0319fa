-- What an accepted plan is, in words that know nothing of how it was validated, what is never due,
-- and that a moment has one text. The layer above takes from here what it may rely on.
use Rattle.std.specs.Prelude.{◌≡◌, ◌≢◌, ◌↔◌, ℕ, ◌≤◌, ◌==◌, true, false, List, length, All, Some, None, IsTrue, is_some, pos}
use Rattle.std.specs.List.{IsDistinct}
use Rattle.std.specs.Str.{bytes_eq}
use Rattle.plan_model.specs.declared.plan.Plan.{Plan}
use Rattle.plan_model.specs.declared.plan.VmFact.{VmFact}
use Rattle.plan_model.specs.declared.moment.Moment.{Moment}
use Rattle.plan_model.specs.Book.{fact_of}
use Rattle.plan_model.specs.Plans.{plan_refusal, next_plan, vm_number}
use Rattle.plan_model.specs.Way.{is_copy_due}
use Rattle.plan_model.specs.Calendar.{is_date, days_before}
use Rattle.plan_model.specs.Moments.{moment_of}
use Rattle.jiff_core.specs.Calendar.{days_from_civil}

-- the machine of this name is known, in no plan and tracked
pub record IsFree (known : List VmFact) (name : List ℕ) : Type 0 where
  pub fact : VmFact
  pub is_known : fact_of known name ≡ Some fact
  pub in_no_plan : fact.in_plan ≡ false
  pub tracked : fact.tracking ≡ true

-- the machines may go into a plan of this name
pub record IsPossible (name : List ℕ) (vms : List (List ℕ)) (known : List VmFact)
    (plans : List Plan) : Type 0 where
  pub new_name : All (λ plan. plan.name ≢ name) plans
  pub some : 1 ≤ length vms
  pub once : IsDistinct bytes_eq vms
  pub free : All (IsFree known) vms

abbrev pub AcceptedIsPossible : Type 0
AcceptedIsPossible = (name : List ℕ) (vms : List (List ℕ)) (known : List VmFact)
    (plans : List Plan)
    → (plan_refusal name vms known plans ≡ None) ↔ IsPossible name vms known plans

-- facts of different names are of different machines
abbrev pub NumbersTellApart : (known : List VmFact) → Type 0
NumbersTellApart known = (a b : List ℕ)
    → IsTrue (is_some (fact_of known a)) → IsTrue (is_some (fact_of known b))
    → vm_number known a ≡ vm_number known b → a ≡ b

-- so the machines of an accepted plan differ
abbrev pub AcceptedMachinesDiffer : Type 0
AcceptedMachinesDiffer = (name : List ℕ) (vms : List (List ℕ)) (known : List VmFact)
    (plans : List Plan) (interval : ℕ)
    → NumbersTellApart known → plan_refusal name vms known plans ≡ None
    → IsDistinct ◌==◌ (next_plan name vms known plans interval).vms

-- what was copied at a moment isn't due again at that moment
abbrev pub NothingIsDueTwice : Type 0
NothingIsDueTwice = (now : Moment) (interval : ℕ) → 1 ≤ interval
    → is_copy_due now now interval ≡ false

-- from 1970 on the days before a date are its day number, sign and all
abbrev pub DaysAreThose : Type 0
DaysAreThose = (year month day : ℕ) → IsTrue (is_date year month day) → 1970 ≤ year
    → pos (days_before year month day) ≡ days_from_civil (pos year) month day

-- a moment is written in one way only
abbrev pub MomentsDiffer : Type 0
MomentsDiffer = (a b : List ℕ) (moment : Moment)
    → moment_of a ≡ Some moment → moment_of b ≡ Some moment → a ≡ b
