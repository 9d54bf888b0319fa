-- What is known of the machine at a place of a fleet, and by a name: its number is that of its
-- place, so machines of different names have different numbers.
use Rattle.std.proofs.Common.{◌≡◌, ℕ, suc, ◌+◌, ◌<◌, Bool, true, false, cond, List, [], ◌∷◌, length, get_or, Option, Some, None, option_map, refl, ap, ◌∙◌, sym, slice_get, arith}
use Rattle.std.specs.List.{find}
use Rattle.std.specs.Str.{bytes_eq}
use Rattle.std.proofs.lemmas.List.{length-map}
use Rattle.std.proofs.lemmas.Option.{none-some, same_Some, slice_get-map, slice_get-get_or, some_pair_parts}
use Rattle.std.proofs.lemmas.Slice.Eq.{bytes_eq-Decides}
use Rattle.basics.proofs.Options.{some_value}
use Rattle.log_model.specs.Link.{is_active}
use Rattle.log_model.specs.Marks.{tracking}
use Rattle.source_vm.specs.Machine.{MachineState}
use Rattle.fleet.specs.Fleet.{VmState, FleetState, machine_of}
use Rattle.fleet.specs.Sound.{AllAreIn}
use Rattle.fleet.proofs.Replacing.{vm_of-at}
use Rattle.inventory.specs.Rows.{vm_row, vm_rows}
use Rattle.inventory.proofs.Listing.{row_at, no_row_at, row_count}
use Rattle.plan_model.specs.declared.plan.VmFact.{VmFact}
use Rattle.plan_model.specs.Book as book
use Rattle.plan_model.specs.Laws.{NumbersTellApart}
use Rattle.plan_model.specs.Plans.{vm_number}
use Rattle.ctl_state.specs.Value.{CtlValue, is_at_work}
use Rattle.plan_commands.specs.Machines.{known_machine, known_of}

-- ---- by a place

pub known_at : (fleet : FleetState) (v : CtlValue) (place : ℕ) (vm : VmState)
    → slice_get fleet.vms place ≡ Some vm
    → slice_get (known_of fleet v) place
    ≡ Some (known_machine v (vm_row fleet.hosts (place + 1) vm))
known_at fleet v place vm at =
    slice_get-map (known_machine v) (vm_rows fleet) place
    ∙ ap (option_map (known_machine v)) (row_at fleet place vm at)

pub none_known_at : (fleet : FleetState) (v : CtlValue) (place : ℕ)
    → slice_get fleet.vms place ≡ None → slice_get (known_of fleet v) place ≡ None
none_known_at fleet v place none =
    slice_get-map (known_machine v) (vm_rows fleet) place
    ∙ ap (option_map (known_machine v)) (no_row_at fleet place none)

pub known_count : (fleet : FleetState) (v : CtlValue)
    → length (known_of fleet v) ≡ length fleet.vms
known_count fleet v = length-map (vm_rows fleet) (known_machine v) ∙ row_count fleet

-- what was found of the machine at a place is what is known of it
pub fact_is : (fleet : FleetState) (v : CtlValue) (place : ℕ) → place < length fleet.vms
    → AllAreIn fleet → (name : List ℕ) (host : ℕ) → ◌≡◌ {A = Option (List ℕ × ℕ)}
    (Some (name, host)) (option_map (λ vm. (vm.name, vm.host)) (slice_get fleet.vms place))
    → (machine : MachineState) → Some machine ≡ machine_of (place + 1) fleet
    → (fact : VmFact) → fact.name ≡ name → fact.number ≡ place + 1
    → fact.in_plan ≡ is_at_work v (place + 1) → fact.tracking ≡ is_active (tracking machine.log)
    → slice_get (known_of fleet v) place ≡ Some fact
fact_is fleet v place within all_in name host pair machine is fact n k w t =
    let none : VmState = record { name = []; host = 0; capacities = []; log = []; out = false } in
    let vm : VmState = get_or fleet.vms place none in
    let at : slice_get fleet.vms place ≡ Some vm = slice_get-get_or fleet.vms place none within in
    let in_it : vm.out ≡ false = all_in place none within in
    let named = some_pair_parts name vm.name host vm.host
    (pair ∙ ap (option_map {U = List ℕ × ℕ} (λ (x : VmState). (x.name, x.host))) at) in
    let same : machine
    ≡ record { number = place + 1; capacities = vm.capacities; log = vm.log } =
    same_Some _ _ (is ∙ rw (vm_of-at (place + 1) place fleet refl, at, in_it) refl) in
    known_at fleet v place vm at ∙ (λ i. Some (record {
      name = (sym named.0 ∙ sym n) i;
      number = sym k i;
      in_plan = sym w i;
      tracking = (ap (λ (m : MachineState). is_active (tracking m.log)) (sym same) ∙ sym t) i;
    }))

-- ---- by a name

-- what a search finds stands at a place and passes
pub found_at : {X : Type 0} (test : X → Bool) (xs : List X) (x : X) → find test xs ≡ Some x
    → (place : ℕ) × (slice_get xs place ≡ Some x) × (test x ≡ true)
found_at test [] x h = absurd (none-some x h)
found_at {X} test (y ∷ xs) x h = by (test y) refl h (λ later. found_at test xs x later)
  where
    by : (b : Bool) → test y ≡ b → cond b (Some y) (find test xs) ≡ Some x
        → (find test xs ≡ Some x
        → (place : ℕ) × (slice_get xs place ≡ Some x) × (test x ≡ true))
        → (place : ℕ) × (slice_get (y ∷ xs) place ≡ Some x) × (test x ≡ true)
    by true e here rest = (0, here, ap test (sym (same_Some y x here)) ∙ e)
    by false e later rest = let found = rest later in (suc found.0, found.1, found.2)

-- the machine of a name, at its place
pub record IsKnown (fleet : FleetState) (v : CtlValue) (name : List ℕ) (fact : VmFact) : Type 0
  where
    pub place : ℕ
    pub vm : VmState
    pub at : slice_get fleet.vms place ≡ Some vm
    pub named : vm.name ≡ name
    pub number : fact.number ≡ place + 1
    pub in_plan : fact.in_plan ≡ is_at_work v fact.number
    pub tracked : fact.tracking ≡ is_active (tracking vm.log)

pub is_known : (fleet : FleetState) (v : CtlValue) (name : List ℕ) (fact : VmFact)
    → book.fact_of (known_of fleet v) name ≡ Some fact → IsKnown fleet v name fact
is_known fleet v name fact h =
    let found = found_at (λ (vm : VmFact). bytes_eq vm.name name) (known_of fleet v) fact h in
    by found.0 found.1 ((bytes_eq-Decides fact.name name).0 found.2) (slice_get fleet.vms found.0)
    refl
  where
    by : (place : ℕ) → slice_get (known_of fleet v) place ≡ Some fact → fact.name ≡ name
        → (o : Option VmState) → slice_get fleet.vms place ≡ o → IsKnown fleet v name fact
    by place is named None at =
        absurd (none-some fact (sym (none_known_at fleet v place at) ∙ is))
    by place is named (Some vm) at =
        let same : known_machine v (vm_row fleet.hosts (place + 1) vm) ≡ fact =
        same_Some _ fact (sym (known_at fleet v place vm at) ∙ is) in
        record {
          place = place;
          vm = vm;
          at = at;
          named = ap (λ (f : VmFact). f.name) same ∙ named;
          number = ap (λ (f : VmFact). f.number) (sym same);
          in_plan = ap (λ (f : VmFact). f.in_plan) (sym same)
              ∙ ap (λ (f : VmFact). is_at_work v f.number) same;
          tracked = ap (λ (f : VmFact). f.tracking) (sym same);
        }

-- the number of a machine that is known
pub number_is : (known : List VmFact) (name : List ℕ) (fact : VmFact)
    → book.fact_of known name ≡ Some fact → vm_number known name ≡ fact.number
number_is known name fact h =
    ap (λ (o : Option VmFact). book.number_of (option_map book.standing_of o)) h

pub numbers_tell_apart : (fleet : FleetState) (v : CtlValue) → NumbersTellApart (known_of fleet v)
numbers_tell_apart fleet v a b known_a known_b same =
    let known = known_of fleet v in
    let fa = some_value (book.fact_of known a) known_a in
    let fb = some_value (book.fact_of known b) known_b in
    let ka = is_known fleet v a fa.0 fa.1 in
    let kb = is_known fleet v b fb.0 fb.1 in
    let numbers : fa.0.number ≡ fb.0.number =
    sym (number_is known a fa.0 fa.1) ∙ same ∙ number_is known b fb.0 fb.1 in
    let places : ka.place ≡ kb.place = omega (arith, numbers, ka.number, kb.number) in
    let vms : ka.vm ≡ kb.vm =
    same_Some _ _ (sym ka.at ∙ ap (slice_get fleet.vms) places ∙ kb.at) in
    sym ka.named ∙ ap (λ (vm : VmState). vm.name) vms ∙ kb.named
