-- The rows of a listing, one after the other, and what the calls that find a machine's parts make
-- of its row.
use Rattle.std.proofs.Common.{◌≡◌, ℕ, zero, suc, ◌+◌, ◌-◌, ◌<◌, ◌≤◌, Bool, true, false, true≢false, is_some, List, [], ◌∷◌, map, length, get_or, take, Option, Some, None, All, option_map, refl, ap, ◌∙◌, sym, subst, slice_get, arith}
use Rattle.std.specs.List.{enumerate_from}
use Rattle.std.specs.Option.{option_map_or}
use Rattle.std.proofs.lemmas.List.{length-map}
use Rattle.std.proofs.lemmas.List.FromFn.{length-enumerate_from}
use Rattle.std.proofs.lemmas.Option.{none-some, same_Some, slice_get-map, slice_get-get_or, some_pair_parts}
use Rattle.log_model.specs.Legal.{machine_on}
use Rattle.log_model.specs.Link.{is_active}
use Rattle.log_model.specs.Marks.{tracking}
use Rattle.source_vm.specs.Machine.{MachineState}
use Rattle.fleet.specs.Fleet.{HostState, VmState, FleetState, machine_of, vm_of}
use Rattle.fleet.specs.Sound.{AllAreIn}
use Rattle.fleet.proofs.Replacing.{vm_of-at}
use Rattle.inventory.specs.Rows.{host_rows, host_name, vm_row, vm_rows}
use Rattle.inventory.specs.declared.rows.VmRow.{VmRow}

-- all rows
pub all_taken : {X : Type 0} (xs : List X) (place : ℕ) → slice_get xs place ≡ None
    → take place xs ≡ xs
all_taken [] zero none = refl
all_taken [] (suc place) none = refl
all_taken (x ∷ xs) zero none = absurd (none-some x (sym none))
all_taken (x ∷ xs) (suc place) none = ap (λ l. x ∷ l) (all_taken xs place none)

numbered_at : {X : Type 0} (n : ℕ) (xs : List X) (place : ℕ) (x : X) → slice_get xs place ≡ Some x
    → slice_get (enumerate_from n xs) place ≡ Some (place + n, x)
numbered_at n [] place x at = absurd (none-some x at)
numbered_at n (y ∷ xs) zero x at =
    let number : ◌≡◌ {A = ℕ} n (0 + n) = omega arith in
    λ i. Some (number i, same_Some y x at i)
numbered_at n (y ∷ xs) (suc place) x at =
    let number : ◌≡◌ {A = ℕ} (place + (n + 1)) (suc place + n) = omega arith in
    numbered_at (n + 1) xs place x at ∙ ap (λ k. Some (k, x)) number

none_numbered : {X : Type 0} (n : ℕ) (xs : List X) (place : ℕ) → slice_get xs place ≡ None
    → slice_get (enumerate_from n xs) place ≡ None
none_numbered n [] place none = refl
none_numbered n (x ∷ xs) zero none = absurd (none-some x (sym none))
none_numbered n (x ∷ xs) (suc place) none = none_numbered (n + 1) xs place none

-- where nothing is found, nothing is there
pub none_there : {X Y Z : Type 0} (f : X → Z) (g : Y → Z) (found : Option X) (there : Option Y)
    → is_some found ≡ false → option_map f found ≡ option_map g there → there ≡ None
none_there f g None None h same = refl
none_there f g None (Some y) h same = absurd (none-some (g y) same)
none_there f g (Some x) there h same = absurd (true≢false h)

-- the row at a place
pub row_at : (fleet : FleetState) (place : ℕ) (vm : VmState) → slice_get fleet.vms place ≡ Some vm
    → slice_get (vm_rows fleet) place ≡ Some (vm_row fleet.hosts (place + 1) vm)
row_at fleet place vm at =
    slice_get-map (λ numbered. vm_row fleet.hosts numbered.0 numbered.1)
    (enumerate_from 1 fleet.vms) place
    ∙ ap (option_map (λ numbered. vm_row fleet.hosts numbered.0 numbered.1))
    (numbered_at 1 fleet.vms place vm at)

pub no_row_at : (fleet : FleetState) (place : ℕ) → slice_get fleet.vms place ≡ None
    → slice_get (vm_rows fleet) place ≡ None
no_row_at fleet place none =
    slice_get-map (λ numbered. vm_row fleet.hosts numbered.0 numbered.1)
    (enumerate_from 1 fleet.vms) place
    ∙ ap (option_map (λ numbered. vm_row fleet.hosts numbered.0 numbered.1))
    (none_numbered 1 fleet.vms place none)

pub row_count : (fleet : FleetState) → length (vm_rows fleet) ≡ length fleet.vms
row_count fleet =
    length-map (enumerate_from 1 fleet.vms) (λ numbered. vm_row fleet.hosts numbered.0 numbered.1)
    ∙ length-enumerate_from 1 fleet.vms

machine_is : (fleet : FleetState) (place : ℕ) (vm : VmState) (machine : MachineState)
    → slice_get fleet.vms place ≡ Some vm → vm.out ≡ false
    → Some machine ≡ machine_of (place + 1) fleet
    → machine ≡ record { number = place + 1; capacities = vm.capacities; log = vm.log }
machine_is fleet place vm machine at within is =
    same_Some _ _ (is ∙ rw (vm_of-at (place + 1) place fleet refl, at, within) refl)

-- a row with what was found of the machine is its row
pub row_is : (fleet : FleetState) (place : ℕ) → place < length fleet.vms → AllAreIn fleet
    → (name : List ℕ) (host : ℕ) → ◌≡◌ {A = Option (List ℕ × ℕ)} (Some (name, host))
    (option_map (λ vm. (vm.name, vm.host)) (slice_get fleet.vms place))
    → (told : HostState) → Some told ≡ slice_get fleet.hosts host
    → (machine : MachineState) → Some machine ≡ machine_of (place + 1) fleet
    → (row : VmRow) → row.name ≡ name → row.number ≡ place + 1 → row.host ≡ told.name
    → row.capacities ≡ machine.capacities → row.on ≡ machine_on machine.log
    → row.tracking ≡ is_active (tracking machine.log)
    → slice_get (vm_rows fleet) place ≡ Some row
row_is fleet place within all_in name host pair told host_at machine is row n k h c o t =
    let none : VmState = record { name = []; host = 0; capacities = []; log = []; out = false } in
    let vm : VmState = get_or fleet.vms place none in
    let at : slice_get fleet.vms place ≡ Some vm = slice_get-get_or fleet.vms place none within in
    let parts = some_pair_parts name vm.name host vm.host
    (pair ∙ ap (option_map {U = List ℕ × ℕ} (λ (v : VmState). (v.name, v.host))) at) in
    let same = machine_is fleet place vm machine at (all_in place none within) is in
    let host_is : host_name vm.host fleet.hosts ≡ row.host =
    ap (λ p. host_name p fleet.hosts) (sym parts.1)
    ∙ ap (λ o. option_map_or (λ (found : HostState). found.name) o []) (sym host_at) ∙ sym h in
    row_at fleet place vm at ∙ (λ i. Some (record {
      name = (sym parts.0 ∙ sym n) i;
      number = sym k i;
      host = host_is i;
      capacities = (ap (λ (m : MachineState). m.capacities) (sym same) ∙ sym c) i;
      on = (ap (λ (m : MachineState). machine_on m.log) (sym same) ∙ sym o) i;
      tracking = (ap (λ (m : MachineState). is_active (tracking m.log)) (sym same) ∙ sym t) i;
    }))
