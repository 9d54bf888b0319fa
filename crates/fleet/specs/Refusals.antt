-- Why a host or a machine isn't added, the reasons in order. None stands where it is added. Want of
-- memory is no reason here: it may come where no other one stands.
use Rattle.std.specs.Prelude.{ℕ, List, length, not, nat_le, Option, Some, None, is_some, is_none, if◌then◌else◌}
use Rattle.source_vm.specs.Machine.{may_have_disks}
use Rattle.fleet.specs.declared.limits.TheConstants.{MAX_HOSTS, MAX_VMS}
use Rattle.fleet.specs.declared.refusals.FleetRefused.{FleetRefused}
use Rattle.fleet.specs.declared.refusals.FleetRefused.TheVariants.{NameTaken, UnknownHost, TooMany, BadSize, NoMemory}
use Rattle.fleet.specs.Fleet.{FleetState, host_place, vm_number}

-- the number of a refusal; want of memory has none
abbrev pub refusal_number : FleetRefused → Option ℕ
refusal_number NameTaken = Some 1
refusal_number UnknownHost = Some 2
refusal_number TooMany = Some 3
refusal_number BadSize = Some 4
refusal_number NoMemory = None

abbrev pub add_host_refusal : (name : List ℕ) → FleetState → Option FleetRefused
add_host_refusal name fleet =
    if is_some (host_place name fleet) then Some NameTaken
    else if nat_le MAX_HOSTS (length fleet.hosts) then Some TooMany else None

abbrev pub add_vm_refusal : (name host capacities : List ℕ) → FleetState → Option FleetRefused
add_vm_refusal name host capacities fleet =
    if is_some (vm_number name fleet) then Some NameTaken
    else if is_none (host_place host fleet) then Some UnknownHost
    else if not (may_have_disks capacities) then Some BadSize
    else if nat_le MAX_VMS (length fleet.vms) then Some TooMany else None
