-- The migrations of a plan's waiting machines may begin one after another, in the plan's order.
use Rattle.std.proofs.Common.{◌≡◌, ℕ, zero, suc, ◌+◌, ◌-◌, ◌≤◌, ◌==◌, ◌&&◌, Bool, true, false, List, [], ◌∷◌, ◌++◌, length, map, drop, Option, Some, None, option_map, All, refl, ap, ◌∙◌, sym, subst, slice_get, append_assoc, add-one, arith}
use Rattle.std.specs.Prelude.{nat_le, nat_lt, IsSome, if◌then◌else◌}
use Rattle.std.specs.List.{AllByRecursion, zip, range_with_len}
use Rattle.std.specs.Option.{option_map_or}
use Rattle.std.proofs.lemmas.Bool.{and_parts, eq-eqb, leb-true, le-leb, lt-ltb, false≢true}
use Rattle.std.proofs.lemmas.List.{append-nil, length-append}
use Rattle.std.proofs.lemmas.List.Elements.{All-drop, All-from_recursion, recursion_from_All}
use Rattle.std.proofs.lemmas.Option.{none-some, slice_get_within, get_or_from_slice_get}
use Rattle.basics.specs.declared.limits.TheConstants.{MAX_DISKS}
use Rattle.answers.specs.declared.refusal.Refusal.TheVariants as told
use Rattle.source_vm.specs.Machine.{MachineState}
use Rattle.fleet.specs.Fleet.{VmState, FleetState, vm_of, machine_of}
use Rattle.fleet.specs.Sound.{IsFleet}
use Rattle.fleet.proofs.Logs.{at_place}
use Rattle.fleet.proofs.StaysSound.{IsVm-at}
use Rattle.plan_model.specs.declared.plan.Plan.{Plan}
use Rattle.record_codec.specs.declared.record.Record.{Record}
use Rattle.record_codec.specs.declared.record.Record.TheVariants.{MigrationStarted}
use Rattle.record_codec.specs.Record.{KeepsRule}
use Rattle.ctl_state.specs.declared.plans.PlanCourse.{PlanCourse}
use Rattle.ctl_state.specs.Fold.{IsStateOf, after_record, with_started}
use Rattle.ctl_state.specs.MayStand.{is_next, record_may_stand}
use Rattle.ctl_state.specs.Steps.{new_migration}
use Rattle.ctl_state.specs.Value.{CtlValue, plan_in, course_in, plan_named, waiting}
use Rattle.ctl_state.proofs.FoldFacts.{goes_on}
use Rattle.ctl_state.proofs.ListFacts.{numbered_at, numbered-changed}
use Rattle.record_keeping.specs.Keeping.{MayBeKept}
use Rattle.plan_commands.specs.Laws.{StartsMayBeKept}
use Rattle.plan_commands.specs.Machines.{disks_of, HaveMachines}
use Rattle.plan_commands.specs.commands.Start.{waiting_in, begun_by, start_refusal_of, start_records_of}

-- ---- machines that are there

pub record IsThere (fleet : FleetState) (vm : ℕ) : Type 0 where
  pub some : 1 ≤ disks_of vm fleet
  pub few : disks_of vm fleet ≤ MAX_DISKS

machine_is : (fleet : FleetState) (vm : ℕ) (s : VmState) → vm_of vm fleet ≡ Some s
    → IsSome (machine_of vm fleet) → disks_of vm fleet ≡ length s.capacities
machine_is fleet vm s is there = rw is (by s.out refl (rw is at there))
  where
    shown : Bool → Option MachineState
    shown out = option_map {T = VmState} {U = MachineState}
        (λ x. record { number = vm; capacities = x.capacities; log = x.log })
        (if out then None else Some s)

    by : (out : Bool) → s.out ≡ out → IsSome (shown out)
        → option_map_or (λ (m : MachineState). length m.capacities) (shown out) 0
        ≡ length s.capacities
    by true out there = absurd (false≢true there)
    by false out there = refl

is_there : (fleet : FleetState) (vm : ℕ) → IsFleet fleet → IsSome (machine_of vm fleet)
    → IsThere fleet vm
is_there fleet vm sound there = by (vm_of vm fleet) refl there
  where
    by : (o : Option VmState) → vm_of vm fleet ≡ o → IsSome (machine_of vm fleet)
        → IsThere fleet vm
    by None is there = absurd (false≢true (rw is at there))
    by (Some s) is there =
        let disks = machine_is fleet vm s is there in
        let counts = and_parts (nat_le 1 (length s.capacities) && nat_le (length s.capacities)
        MAX_DISKS) _ (IsVm-at (vm - 1) s fleet sound (at_place vm s fleet is)).disks in
        let both = and_parts (nat_le 1 (length s.capacities)) _ counts.0 in
        record {
          some = subst (λ n. 1 ≤ n) (sym disks) (leb-true 1 (length s.capacities) both.0);
          few = subst (λ n. n ≤ MAX_DISKS) (sym disks)
              (leb-true (length s.capacities) MAX_DISKS both.1);
        }

all_there : (fleet : FleetState) (vms : List ℕ) → IsFleet fleet
    → AllByRecursion (λ vm. IsSome (machine_of vm fleet)) vms
    → AllByRecursion (IsThere fleet) vms
all_there fleet [] sound there = tt
all_there fleet (vm ∷ vms) sound there =
    (is_there fleet vm sound there.0, all_there fleet vms sound there.1)

-- those of a plan that wait are there
waiting_there : (fleet : FleetState) (v : CtlValue) (plan : ℕ) → IsFleet fleet
    → HaveMachines fleet v → AllByRecursion (IsThere fleet) (waiting_in plan v)
waiting_there fleet v plan sound have =
    by (plan_in v plan) (course_in v plan) refl
  where
    HasAll : Plan → Type 0
    HasAll p = All (λ vm. IsSome (machine_of vm fleet)) p.vms

    by : (p : Option Plan) (course : Option PlanCourse) → plan_in v plan ≡ p
        → AllByRecursion (IsThere fleet)
        (option_map_or (λ q. option_map_or (λ c. waiting (q, c)) course []) p [])
    by None course is = tt
    by (Some p) None is = tt
    by (Some p) (Some course) is =
        let at = (numbered_at v.plans plan p is).1 in
        let all = subst HasAll (get_or_from_slice_get v.plans (plan - 1) p p at)
        (have (plan - 1) p (slice_get_within v.plans (plan - 1) p at)) in
        all_there fleet (drop course.started p.vms) sound
        (recursion_from_All (λ vm. IsSome (machine_of vm fleet)) (drop course.started p.vms)
        (All-drop (λ vm. IsSome (machine_of vm fleet)) course.started p.vms all))

-- ---- one begins

first_left : (xs : List ℕ) (i x : ℕ) (rest : List ℕ) → drop i xs ≡ x ∷ rest
    → (slice_get xs i ≡ Some x) × (drop (suc i) xs ≡ rest)
first_left [] zero x rest h = absurd (cc)
first_left [] (suc i) x rest h = absurd (cc)
first_left (y ∷ xs) zero x rest h = (cc, cc)
first_left (y ∷ xs) (suc i) x rest h = first_left xs i x rest h

next_waits : (v : CtlValue) (plan vm : ℕ) (vms : List ℕ) → waiting_in plan v ≡ vm ∷ vms
    → (is_next v plan vm ≡ true) × ((mig disks : ℕ)
    → waiting_in plan (after_record v (MigrationStarted mig plan vm disks)) ≡ vms)
next_waits v plan vm vms waits = by (plan_in v plan) (course_in v plan) refl refl waits
  where
    by : (p : Option Plan) (course : Option PlanCourse) → plan_in v plan ≡ p
        → course_in v plan ≡ course
        → option_map_or (λ q. option_map_or (λ c. waiting (q, c)) course []) p [] ≡ vm ∷ vms
        → (is_next v plan vm ≡ true) × ((mig disks : ℕ)
        → waiting_in plan (after_record v (MigrationStarted mig plan vm disks)) ≡ vms)
    by None course is goes h = absurd (cc)
    by (Some p) None is goes h = absurd (cc)
    by (Some p) (Some course) is goes h =
        let first = first_left p.vms course.started vm vms h in (
          rw (is, goes, first.0) (eq-eqb vm vm refl),
          λ mig disks. rw (is, numbered-changed v.courses plan with_started, goes)
              (ap (λ n. drop n p.vms) (add-one course.started) ∙ first.1),
        )

-- ---- all of them begin

may_begin : (numbers next : Bool) (disks : ℕ) → numbers ≡ true → next ≡ true → 1 ≤ disks
    → disks ≤ MAX_DISKS → (numbers && (next && (nat_lt 0 disks && nat_le disks MAX_DISKS))) ≡ true
may_begin numbers next disks a b some few =
    rw (a, b, lt-ltb 0 disks (omega (arith, some)), le-leb disks MAX_DISKS few) refl

begin : (plan : ℕ) (fleet : FleetState) (vms : List ℕ) (records : List Record) (v : CtlValue)
    (first : ℕ) → first ≡ length v.migrations + 1 → IsStateOf v records
    → waiting_in plan v ≡ vms → AllByRecursion (IsThere fleet) vms
    → (next : CtlValue) × IsStateOf next
    (records ++ map (begun_by plan fleet) (zip (range_with_len first (length vms)) vms))
begin plan fleet [] records v first is state waits there =
    (v, subst (IsStateOf v) (sym (append-nil records)) state)
begin plan fleet (vm ∷ vms) records v first is state waits there =
    let disks = disks_of vm fleet in
    let r = MigrationStarted first plan vm disks in
    let next = next_waits v plan vm vms waits in
    let may : record_may_stand v r ≡ true = may_begin (first == length v.migrations + 1)
    (is_next v plan vm) disks (eq-eqb first (length v.migrations + 1) is) next.0 there.0.some
    there.0.few in
    let later : first + 1 ≡ length (v.migrations ++ new_migration first plan vm disks ∷ []) + 1 =
    omega (arith, is, length-append v.migrations (new_migration first plan vm disks ∷ [])) in
    let rest = begin plan fleet vms (records ++ r ∷ []) (after_record v r) (first + 1) later
    (goes_on v records r state may) (next.1 first disks) there.1 in
    (rest.0, subst (IsStateOf rest.0) (append_assoc records (r ∷ []) _) rest.1)

all_ruled : (plan : ℕ) (fleet : FleetState) (vms : List ℕ) (first : ℕ)
    → AllByRecursion KeepsRule
    (map (begun_by plan fleet) (zip (range_with_len first (length vms)) vms))
all_ruled plan fleet [] first = tt
all_ruled plan fleet (vm ∷ vms) first = (tt, all_ruled plan fleet vms (first + 1))

pub starts_may_be_kept : StartsMayBeKept
starts_may_be_kept v fleet plan sound have none = by (plan_named v.plans plan) none
  where
    by : (o : Option ℕ)
        → option_map_or (λ number. start_refusal_of number v) o (Some told.UnknownPlan) ≡ None
        → MayBeKept v (option_map_or (λ number. start_records_of number fleet v) o [])
    by None none = absurd (none-some told.UnknownPlan (sym none))
    by (Some number) none =
        let vms = waiting_in number v in
        let first = length v.migrations + 1 in
        record {
          stand = λ records come. begin number fleet vms records v first refl come refl
              (waiting_there fleet v number sound have);
          rules = All-from_recursion KeepsRule (start_records_of number fleet v)
              (all_ruled number fleet vms first);
        }
