-- A plan that isn't refused: its machines are known and idle, and differ, so that it may be made.
use Rattle.std.proofs.Common.{◌≡◌, ℕ, ◌+◌, ◌<◌, ◌≤◌, ◌==◌, ◌&&◌, ◌||◌, not, Bool, true, false, List, [], ◌∷◌, length, map, Option, Some, None, option_map, refl, ap, ◌∙◌, sym, lit≤, arith}
use Rattle.std.specs.Prelude.{option_and_then, unwrap_or, IfSome, IsSomeAnd, if◌then◌else◌}
use Rattle.std.specs.List.{AllByRecursion, IsDistinct, find, list_any}
use Rattle.std.specs.Option.{option_or}
use Rattle.std.proofs.lemmas.Bool.{eqb-true, eqb-false, eq-eqb, ne_eqb, false≢true}
use Rattle.std.proofs.lemmas.List.{length-map}
use Rattle.std.proofs.lemmas.List.Elements.{All-from_recursion, recursion_from_All}
use Rattle.std.proofs.lemmas.List.Folds.{list_any_none}
use Rattle.std.proofs.lemmas.Map.Steps.{length-le_from_distinct_below}
use Rattle.std.proofs.lemmas.Option.{none-some, slice_get_within, get_or_from_slice_get}
use Rattle.basics.specs.declared.limits.TheConstants.{MAX_INTERVAL}
use Rattle.basics.proofs.Each.{each}
use Rattle.cmd_json.specs.Range.{IsWithin}
use Rattle.answers.specs.declared.refusal.Refusal.TheVariants as told
use Rattle.log_model.specs.Link.{is_active}
use Rattle.log_model.specs.Marks.{tracking}
use Rattle.fleet.specs.Fleet.{VmState, FleetState, machine_of}
use Rattle.fleet.specs.Sound.{AllAreIn}
use Rattle.fleet.proofs.Replacing.{vm_of-at}
use Rattle.plan_model.specs.declared.plan.PlanRefused.TheVariants.{Empty, UnknownVm, InPlan, NoTracking, NameTaken, Doubled}
use Rattle.plan_model.specs.Book.{is_unknown, is_in_plan, is_untracked}
use Rattle.plan_model.specs.Laws.{IsFree}
use Rattle.plan_model.specs.Plans.{plan_refusal as model_refusal, is_taken, is_doubled_in, first_that, next_plan, vm_number}
use Rattle.plan_model.proofs.Accepted.{accepted_is_possible, accepted_machines_differ}
use Rattle.ctl_state.specs.Value.{CtlValue, is_at_work, is_listed}
use Rattle.ctl_state.specs.MayStand.{has_double, record_may_stand}
use Rattle.record_keeping.proofs.KeepLemmas.{one_may}
use Rattle.plan_commands.specs.Laws.{PlansMayBeKept, PlansListTracked}
use Rattle.plan_commands.specs.Machines.{known_of}
use Rattle.plan_commands.specs.commands.Plan.{plan_told, plan_refusal, made_by}
use Rattle.plan_commands.specs.declared.plan.TheConstants.{DEFAULT_INTERVAL}
use Rattle.plan_commands.proofs.Known.{is_known, number_is, numbers_tell_apart}

-- ---- each reason is told

-- so where none is told, none stands
none_stands : (taken empty : Bool) (d u p t : Option (List ℕ))
    → option_and_then plan_told (if taken then Some NameTaken else if empty then Some Empty
    else option_or (option_map Doubled d) (option_or (option_map UnknownVm u)
    (option_or (option_map InPlan p) (option_map NoTracking t)))) ≡ None
    → (taken ≡ false) × (empty ≡ false) × ((if taken then Some NameTaken
    else if empty then Some Empty
    else option_or (option_map Doubled d) (option_or (option_map UnknownVm u)
    (option_or (option_map InPlan p) (option_map NoTracking t)))) ≡ None)
none_stands true empty d u p t h = absurd (none-some told.NameTaken (sym h))
none_stands false true d u p t h = absurd (none-some told.Empty (sym h))
none_stands false false (Some vm) u p t h = absurd (none-some (told.Doubled vm) (sym h))
none_stands false false None (Some vm) p t h =
    absurd (none-some (told.UnknownListed vm) (sym h))
none_stands false false None None (Some vm) t h = absurd (none-some (told.InPlan vm) (sym h))
none_stands false false None None None (Some vm) h =
    absurd (none-some (told.NoTracking vm) (sym h))
none_stands false false None None None None h = (refl, refl, refl)

-- ---- its machines

-- a machine of the fleet that is in no plan's unfinished work
record IsIdle (fleet : FleetState) (v : CtlValue) (vm : ℕ) : Type 0 where
  within : vm ≤ length fleet.vms
  idle : is_at_work v vm ≡ false

is_idle : (fleet : FleetState) (v : CtlValue) (name : List ℕ) → IsFree (known_of fleet v) name
    → IsIdle fleet v (vm_number (known_of fleet v) name)
is_idle fleet v name free =
    let known = known_of fleet v in
    let k = is_known fleet v name free.fact free.is_known in
    let number : vm_number known name ≡ free.fact.number =
    number_is known name free.fact free.is_known in
    let below = slice_get_within fleet.vms k.place k.vm k.at in
    record {
      within = omega (arith, number, k.number, below);
      idle = ap (λ n. is_at_work v n) number ∙ sym k.in_plan ∙ free.in_no_plan;
    }

all_idle : (fleet : FleetState) (v : CtlValue) (names : List (List ℕ))
    → AllByRecursion (IsFree (known_of fleet v)) names
    → AllByRecursion (IsIdle fleet v) (map (vm_number (known_of fleet v)) names)
all_idle fleet v [] free = tt
all_idle fleet v (name ∷ names) free =
    (is_idle fleet v name free.0, all_idle fleet v names free.1)

none_at_work : (fleet : FleetState) (v : CtlValue) (vms : List ℕ)
    → AllByRecursion (IsIdle fleet v) vms → list_any (is_at_work v) vms ≡ false
none_at_work fleet v [] idle = refl
none_at_work fleet v (vm ∷ vms) idle =
    ap (λ b. b || list_any (is_at_work v) vms) idle.0.idle ∙ none_at_work fleet v vms idle.1

listed_within : (fleet : FleetState) (v : CtlValue) (vms : List ℕ) (vm : ℕ)
    → AllByRecursion (IsIdle fleet v) vms → list_any (λ other. vm == other) vms ≡ true
    → vm < length fleet.vms + 1
listed_within fleet v [] vm idle h = absurd (false≢true h)
listed_within fleet v (other ∷ vms) vm idle h =
    by (vm == other) refl h (λ rest. listed_within fleet v vms vm idle.1 rest)
  where
    by : (b : Bool) → (vm == other) ≡ b → (b || list_any (λ x. vm == x) vms) ≡ true
        → (list_any (λ x. vm == x) vms ≡ true → vm < length fleet.vms + 1)
        → vm < length fleet.vms + 1
    by true e here rest = omega (arith, eqb-true vm other e, idle.0.within)
    by false e later rest = rest later

-- ---- they differ

unlisted : (vm : ℕ) (vms : List ℕ) → AllByRecursion (λ other. (vm == other) ≡ false) vms
    → is_listed vms vm ≡ false
unlisted vm vms h =
    list_any_none (λ other. other == vm) vms
    (All-from_recursion (λ other. (other == vm) ≡ false) vms
    (each {P = λ other. (vm == other) ≡ false} {Q = λ other. (other == vm) ≡ false}
    (λ other apart. ne_eqb other vm (λ same. eqb-false vm other apart (sym same))) vms h))

none_doubled : (vms : List ℕ) → IsDistinct ◌==◌ vms → has_double vms ≡ false
unfolding IsDistinct
none_doubled [] h = refl
none_doubled (vm ∷ vms) h =
    ap (λ b. b || has_double vms) (unlisted vm vms h.0) ∙ none_doubled vms h.1

-- ---- the plan

all_hold : (next taken none working doubled : Bool) → next ≡ true → taken ≡ false
    → none ≡ false → working ≡ false → doubled ≡ false
    → ((next && not taken) && ((not none && not working) && not doubled)) ≡ true
all_hold next taken none working doubled a b c d e = rw (a, b, c, d, e) refl

interval_fits : (interval : Option ℕ) → IfSome interval (IsWithin 1 MAX_INTERVAL)
    → IsWithin 1 MAX_INTERVAL (unwrap_or interval DEFAULT_INTERVAL)
interval_fits None h = (lit≤ tt, lit≤ tt)
interval_fits (Some minutes) h = h

accepted : (fleet : FleetState) (v : CtlValue) (name : List ℕ) (vms : List (List ℕ))
    → plan_refusal name vms fleet v ≡ None → (is_taken name v.plans ≡ false)
    × ((length vms == 0) ≡ false) × (model_refusal name vms (known_of fleet v) v.plans ≡ None)
accepted fleet v name vms none =
    let known = known_of fleet v in
    none_stands (is_taken name v.plans) (length vms == 0) (find (is_doubled_in vms) vms)
    (first_that is_unknown known vms) (first_that is_in_plan known vms)
    (first_that is_untracked known vms) none

-- its machines are known, idle and tracked
free_names : (fleet : FleetState) (v : CtlValue) (name : List ℕ) (vms : List (List ℕ))
    → plan_refusal name vms fleet v ≡ None → AllByRecursion (IsFree (known_of fleet v)) vms
free_names fleet v name vms none =
    let known = known_of fleet v in
    let possible =
    (accepted_is_possible name vms known v.plans).0 (accepted fleet v name vms none).2 in
    recursion_from_All (IsFree known) vms possible.free

pub plans_may_be_kept : PlansMayBeKept
plans_may_be_kept v fleet name vms interval sound named limited none =
    let known = known_of fleet v in
    let why = accepted fleet v name vms none in
    let minutes = unwrap_or interval DEFAULT_INTERVAL in
    let numbers = map (vm_number known) vms in
    let idle : AllByRecursion (IsIdle fleet v) numbers =
    all_idle fleet v vms (free_names fleet v name vms none) in
    let distinct : IsDistinct ◌==◌ numbers =
    accepted_machines_differ name vms known v.plans minutes (numbers_tell_apart fleet v) why.2 in
    let few : length numbers ≤ length fleet.vms + 1 =
    length-le_from_distinct_below numbers (length fleet.vms + 1) distinct
    (λ vm h. listed_within fleet v numbers vm idle h) in
    let fits = interval_fits interval limited in
    let stands : record_may_stand v (made_by (next_plan name vms known v.plans minutes)) ≡ true =
    all_hold (length v.plans + 1 == length v.plans + 1) (is_taken name v.plans)
    (length numbers == 0) (list_any (is_at_work v) numbers) (has_double numbers)
    (eq-eqb (length v.plans + 1) (length v.plans + 1) refl) why.0
    (ap (λ n. n == 0) (length-map vms (vm_number known)) ∙ why.1)
    (none_at_work fleet v numbers idle) (none_doubled numbers distinct) in
    one_may v (made_by (next_plan name vms known v.plans minutes)) stands (record {
      named = named;
      least = fits.0;
      most = fits.1;
      few = (let most = sound.few_vms in omega (arith, few));
    })

-- ---- its machines are tracked

abbrev IsTracked : FleetState → ℕ → Type 0
IsTracked fleet vm = IsSomeAnd (machine_of vm fleet) (λ m. is_active (tracking m.log) ≡ true)

is_tracked : (fleet : FleetState) (v : CtlValue) (name : List ℕ) → AllAreIn fleet
    → IsFree (known_of fleet v) name → IsTracked fleet (vm_number (known_of fleet v) name)
is_tracked fleet v name all_in free =
    let k = is_known fleet v name free.fact free.is_known in
    let number : vm_number (known_of fleet v) name ≡ k.place + 1 =
    number_is (known_of fleet v) name free.fact free.is_known ∙ k.number in
    let in_it : k.vm.out ≡ false =
    ap (λ (vm : VmState). vm.out) (sym (get_or_from_slice_get fleet.vms k.place k.vm k.vm k.at))
    ∙ all_in k.place k.vm (slice_get_within fleet.vms k.place k.vm k.at) in
    rw (number, vm_of-at (k.place + 1) k.place fleet refl, k.at, in_it)
    (sym k.tracked ∙ free.tracked)

all_tracked : (fleet : FleetState) (v : CtlValue) (names : List (List ℕ)) → AllAreIn fleet
    → AllByRecursion (IsFree (known_of fleet v)) names
    → AllByRecursion (IsTracked fleet) (map (vm_number (known_of fleet v)) names)
all_tracked fleet v [] all_in free = tt
all_tracked fleet v (name ∷ names) all_in free =
    (is_tracked fleet v name all_in free.0, all_tracked fleet v names all_in free.1)

pub plans_list_tracked : PlansListTracked
plans_list_tracked v fleet name vms interval all_in none =
    All-from_recursion (IsTracked fleet) (map (vm_number (known_of fleet v)) vms)
    (all_tracked fleet v vms all_in (free_names fleet v name vms none))
