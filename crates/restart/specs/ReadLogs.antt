-- The logs that were read so far, by the numbers of their machines.
use Rattle.std.specs.Prelude.{◌≡◌, ◌⊎◌, ℕ, Some}
use Rattle.std.specs.BTreeMap.{BTreeMap, get}
use Rattle.std.specs.Ordering.{nat_cmp}
use Rattle.source_vm.specs.Machine.{MachineState}
use Rattle.fleet.specs.Fleet.{FleetState, machine_of}

abbrev pub FactsByVm : Type 0
FactsByVm = BTreeMap ℕ MachineState

-- each is that of a machine of the fleet
abbrev pub AreOf : FleetState → FactsByVm → Type 0
AreOf fleet facts = (vm : ℕ) (at : MachineState) → get nat_cmp facts vm ≡ Some at
    → machine_of vm fleet ≡ Some at

-- what is new is what this machine tells
abbrev pub GainsOnly : MachineState → (old new : FactsByVm) → Type 0
GainsOnly machine old new = (vm : ℕ) (at : MachineState) → get nat_cmp new vm ≡ Some at
    → (get nat_cmp old vm ≡ Some at) ⊎ ((vm ≡ machine.number) × (at ≡ machine))
