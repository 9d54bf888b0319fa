-- What plans find of the machines of a fleet.
use Rattle.std.specs.Prelude.{ℕ, All, List, [], length, map, IsSome}
use Rattle.std.specs.Option.{option_map_or}
use Rattle.log_model.specs.declared.entry.Entry.{Entry}
use Rattle.fleet.specs.Fleet.{FleetState, vm_of, machine_of}
use Rattle.inventory.specs.Rows.{vm_rows}
use Rattle.inventory.specs.declared.rows.VmRow.{VmRow}
use Rattle.plan_model.specs.declared.plan.VmFact.{VmFact}
use Rattle.ctl_state.specs.Value.{CtlValue, is_at_work}

-- what is known of a machine, where the records came to a value
abbrev pub known_machine : CtlValue → VmRow → VmFact
known_machine v row = record {
  name = row.name;
  number = row.number;
  in_plan = is_at_work v row.number;
  tracking = row.tracking;
}

-- of all machines, in order of their numbers
abbrev pub known_of : FleetState → CtlValue → List VmFact
known_of fleet v = map (known_machine v) (vm_rows fleet)

-- how many disks the machine of a number has
abbrev pub disks_of : (vm : ℕ) → FleetState → ℕ
disks_of vm fleet = option_map_or (λ machine. length machine.capacities) (machine_of vm fleet) 0

-- the machines of each plan are there
abbrev pub HaveMachines : FleetState → CtlValue → Type 0
HaveMachines fleet v = All (λ plan. All (λ vm. IsSome (machine_of vm fleet)) plan.vms) v.plans

-- the name and the log of the machine of a number; of one that isn't there none are known
abbrev pub name_of : (vm : ℕ) → FleetState → List ℕ
name_of vm fleet = option_map_or (λ found. found.name) (vm_of vm fleet) []

abbrev pub log_of : (vm : ℕ) → FleetState → List Entry
log_of vm fleet = option_map_or (λ found. found.log) (vm_of vm fleet) []
