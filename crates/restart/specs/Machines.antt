-- What records find of the machines of a fleet. A machine that is out isn't there.
use Rattle.std.specs.Prelude.{ℕ, ◌==◌, ◌&&◌, Bool, false, length}
use Rattle.std.specs.Option.{option_map_or}
use Rattle.log_model.specs.Link.{is_active}
use Rattle.log_model.specs.Marks.{tracking}
use Rattle.source_vm.specs.Machine.{MachineState}
use Rattle.fleet.specs.Fleet.{FleetState, machine_of}

-- tracking is active on the machine
abbrev pub has_tracking : MachineState → Bool
has_tracking machine = is_active (tracking machine.log)

-- the machine of a number is there, and tracking is active on it
abbrev pub is_tracked : FleetState → (vm : ℕ) → Bool
is_tracked fleet vm = option_map_or has_tracking (machine_of vm fleet) false

-- and it has so many disks
abbrev pub is_tracked_with : FleetState → (vm disks : ℕ) → Bool
is_tracked_with fleet vm disks = option_map_or
    (λ machine. has_tracking machine && length machine.capacities == disks)
    (machine_of vm fleet) false
