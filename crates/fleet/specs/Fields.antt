-- How a fleet keeps its hosts and machines: by name, in the order in which they were added. Where a
-- machine is out, what is remembered of it stands for it.
use Rattle.std.specs.Prelude.{◌≡◌, ℕ, ◌+◌, List, map, slice_get, Option, Some, is_none}
use Rattle.fleet.specs.declared.vm.Host.{Host}
use Rattle.fleet.specs.declared.vm.Vm.{Vm}
use Rattle.fleet.specs.Vm.{machine_under}
use Rattle.fleet.specs.Fleet.{HostState, VmState, FleetState}
use Rattle.fleet.specs.Sound.{IsFleet}

abbrev pub host_state : List ℕ × Host → HostState
host_state entry = record { name = entry.0; limit = entry.1.limit }

abbrev pub vm_state : List ℕ × Vm → VmState
vm_state entry = record {
  name = entry.0;
  host = entry.1.host;
  capacities = (machine_under entry.1).capacities;
  log = (machine_under entry.1).log;
  out = is_none entry.1.machine;
}

abbrev pub fleet_state : List (List ℕ × Host) → List (List ℕ × Vm) → FleetState
fleet_state hosts vms = record { hosts = map host_state hosts; vms = map vm_state vms }

pub record IsKept (hosts : List (List ℕ × Host)) (vms : List (List ℕ × Vm)) : Type 0 where
  pub sound : IsFleet (fleet_state hosts vms)
  -- each machine has the number of its place
  pub numbered : (place : ℕ) (entry : List ℕ × Vm) → slice_get vms place ≡ Some entry
      → (machine_under entry.1).number ≡ place + 1
