-- The hosts and machines of a fleet as plain data. Both stand in the order in which they were
-- added, which numbers them: hosts have places from 0 on, machines have numbers from 1 on. Hosts
-- and machines have names of their own kind, so a host and a machine may share one.
use Rattle.std.specs.Prelude.{◌≡◌, ℕ, ◌+◌, ◌-◌, List, [], ◌∷◌, ◌++◌, length, take, slice_get, slice_set, Bool, true, false, nat_le, if◌then◌else◌, Option, Some, None, option_map, option_and_then, position}
use Rattle.std.specs.Option.{option_map_or}
use Rattle.std.specs.Str.{bytes_eq}
use Rattle.basics.specs.Prefix.{IsPrefix}
use Rattle.log_model.specs.declared.entry.Entry.{Entry}
use Rattle.source_vm.specs.Machine.{MachineState}

pub record HostState : Type 0 where
  pub name : List ℕ
  pub limit : ℕ  -- how many disks that are copied from it may be in flight

-- a machine under its name. While it is out, the log is the one that it had when it was taken out
pub record VmState : Type 0 where
  pub name : List ℕ
  pub host : ℕ  -- the place of its host
  pub capacities : List ℕ
  pub log : List Entry
  pub out : Bool

pub record FleetState : Type 0 where
  pub hosts : List HostState
  pub vms : List VmState

abbrev pub empty_fleet : FleetState
empty_fleet = record { hosts = []; vms = [] }

-- ---- finding by name and by number

abbrev pub host_place : (name : List ℕ) → FleetState → Option ℕ
host_place name fleet = position (λ host. bytes_eq name host.name) fleet.hosts

-- the number of the machine with a name
abbrev pub vm_number : (name : List ℕ) → FleetState → Option ℕ
vm_number name fleet =
    option_map (λ place. place + 1) (position (λ vm. bytes_eq name vm.name) fleet.vms)

-- the machine with a number; no machine has the number 0
abbrev pub vm_of : (number : ℕ) → FleetState → Option VmState
vm_of number fleet = if nat_le 1 number then slice_get fleet.vms (number - 1) else None

-- the same, where it isn't out
abbrev pub vm_in : (number : ℕ) → FleetState → Option VmState
vm_in number fleet =
    option_and_then (λ vm. if vm.out then None else Some vm) (vm_of number fleet)

-- the machine itself, where it isn't out
abbrev pub machine_of : (number : ℕ) → FleetState → Option MachineState
machine_of number fleet = option_map
    (λ vm. record { number = number; capacities = vm.capacities; log = vm.log })
    (vm_in number fleet)

-- ---- adding

abbrev pub with_host : (name : List ℕ) (limit : ℕ) → FleetState → FleetState
with_host name limit fleet = record fleet {
  hosts = fleet.hosts ++ record { name = name; limit = limit } ∷ [];
}

-- a machine that is added is on, and nothing has happened to it
abbrev pub with_vm : (name : List ℕ) (host : ℕ) (capacities : List ℕ) → FleetState → FleetState
with_vm name host capacities fleet = record fleet {
  vms = fleet.vms ++ record {
    name = name;
    host = host;
    capacities = capacities;
    log = [];
    out = false;
  } ∷ [];
}

-- the same, under the host of this name
abbrev pub with_vm_under : (name host capacities : List ℕ) → FleetState → FleetState
with_vm_under name host capacities fleet =
    option_map_or (λ place. with_vm name place capacities fleet) (host_place host fleet) fleet

-- ---- one machine of the fleet changes, and nothing else

abbrev pub with_vm_at : (number : ℕ) → VmState → FleetState → FleetState
with_vm_at number vm fleet = record fleet { vms = slice_set fleet.vms (number - 1) vm }

-- its log is this one
abbrev pub with_log : (number : ℕ) (log : List Entry) → FleetState → FleetState
with_log number log fleet = option_map_or
    (λ vm. with_vm_at number (record vm { log = log }) fleet) (vm_of number fleet) fleet

-- ---- what goes on: no host or machine is lost or changed, and each log only grows

pub record VmGoesOn (old new : VmState) : Type 0 where
  pub name : new.name ≡ old.name
  pub host : new.host ≡ old.host
  pub capacities : new.capacities ≡ old.capacities
  pub log : IsPrefix old.log new.log

pub record FleetGoesOn (old new : FleetState) : Type 0 where
  pub hosts : IsPrefix old.hosts new.hosts
  pub vms : (place : ℕ) (vm : VmState) → slice_get old.vms place ≡ Some vm
      → (later : VmState) × (slice_get new.vms place ≡ Some later) × VmGoesOn vm later
