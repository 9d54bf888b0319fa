-- The hosts and machines of a fleet as rows, in the order in which they were added.
use Rattle.std.specs.Prelude.{ℕ, List, [], map, slice_get}
use Rattle.std.specs.List.{enumerate_from}
use Rattle.std.specs.Option.{option_map_or}
use Rattle.log_model.specs.Legal.{machine_on}
use Rattle.log_model.specs.Link.{is_active}
use Rattle.log_model.specs.Marks.{tracking}
use Rattle.fleet.specs.Fleet.{HostState, VmState, FleetState}
use Rattle.inventory.specs.declared.rows.HostRow.{HostRow}
use Rattle.inventory.specs.declared.rows.VmRow.{VmRow}

abbrev pub host_row : HostState → HostRow
host_row host = record { name = host.name; limit = host.limit }

abbrev pub host_rows : FleetState → List HostRow
host_rows fleet = map host_row fleet.hosts

-- the name of the host at a place
abbrev pub host_name : (place : ℕ) → List HostState → List ℕ
host_name place hosts = option_map_or (λ host. host.name) (slice_get hosts place) []

abbrev pub vm_row : List HostState → (number : ℕ) → VmState → VmRow
vm_row hosts number vm = record {
  name = vm.name;
  number = number;
  host = host_name vm.host hosts;
  capacities = vm.capacities;
  on = machine_on vm.log;
  tracking = is_active (tracking vm.log);
}

-- numbers begin at 1
abbrev pub vm_rows : FleetState → List VmRow
vm_rows fleet =
    map (λ numbered. vm_row fleet.hosts numbered.0 numbered.1) (enumerate_from 1 fleet.vms)
