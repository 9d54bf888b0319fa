-- What commands ask for may be kept, so whoever keeps it is never refused but by want of memory or
-- by the journal; and the value of a journal's records leaves numbers for it.
use Rattle.std.specs.Prelude.{◌≡◌, ℕ, ◌+◌, ◌<◌, ◌^◌, List, length, true, All, Option, None, IfSome, IsSomeAnd}
use Rattle.basics.specs.Spelled.{IsName}
use Rattle.basics.specs.declared.limits.TheConstants.{MAX_INTERVAL}
use Rattle.cmd_json.specs.Range.{IsWithin}
use Rattle.log_model.specs.Link.{is_active}
use Rattle.log_model.specs.Marks.{tracking}
use Rattle.fleet.specs.Fleet.{FleetState, machine_of}
use Rattle.fleet.specs.Sound.{IsFleet, AllAreIn}
use Rattle.journal.specs.Journal.{JournalState, IsKept}
use Rattle.plan_model.specs.Plans.{next_plan}
use Rattle.plan_model.specs.declared.moment.Moment.{Moment}
use Rattle.ctl_state.specs.Fold.{IsStateOf}
use Rattle.ctl_state.specs.Value.{CtlValue}
use Rattle.record_keeping.specs.Keeping.{MayBeKept}
use Rattle.plan_commands.specs.Machines.{known_of, HaveMachines}
use Rattle.plan_commands.specs.commands.Plan.{plan_refusal, plan_records}
use Rattle.plan_commands.specs.commands.Start.{has_numbers_for, start_refusal, start_records}
use Rattle.plan_commands.specs.commands.Cutover.{cutover_refusal, cutover_records}

-- ---- what is asked may be kept

abbrev pub PlansMayBeKept : Type 0
PlansMayBeKept = (v : CtlValue) (fleet : FleetState) (name : List ℕ) (vms : List (List ℕ))
    (interval : Option ℕ) → IsFleet fleet → IsName name
    → IfSome interval (IsWithin 1 MAX_INTERVAL) → plan_refusal name vms fleet v ≡ None
    → MayBeKept v (plan_records name vms interval fleet v)

abbrev pub StartsMayBeKept : Type 0
StartsMayBeKept = (v : CtlValue) (fleet : FleetState) (plan : List ℕ) → IsFleet fleet
    → HaveMachines fleet v → start_refusal plan v ≡ None
    → MayBeKept v (start_records plan fleet v)

abbrev pub CutoversMayBeKept : Type 0
CutoversMayBeKept = (v : CtlValue) (plan : List ℕ) (at : Option Moment)
    → cutover_refusal plan v ≡ None → MayBeKept v (cutover_records plan at v)

-- ---- what stands in a plan that is kept

-- its machines are in the fleet, and their changes are tracked
abbrev pub PlansListTracked : Type 0
PlansListTracked = (v : CtlValue) (fleet : FleetState) (name : List ℕ) (vms : List (List ℕ))
    (interval : ℕ) → AllAreIn fleet → plan_refusal name vms fleet v ≡ None
    → All (λ vm. IsSomeAnd (machine_of vm fleet) (λ m. is_active (tracking m.log) ≡ true))
    (next_plan name vms (known_of fleet v) v.plans interval).vms

-- ---- a journal's records leave numbers

abbrev pub PlansFindNumbers : Type 0
PlansFindNumbers = (v : CtlValue) (j : JournalState) → IsKept j → IsStateOf v j.records
    → length v.plans + 1 < 2 ^ 32

abbrev pub StartsFindNumbers : Type 0
StartsFindNumbers = (v : CtlValue) (j : JournalState) (plan : List ℕ) → IsKept j
    → IsStateOf v j.records → has_numbers_for plan v ≡ true
