-- What is found in a fleet by a name or a number, and that the rest is found as before where a host
-- or a machine is added or one log changes.
use Rattle.std.specs.Prelude.{◌≡◌, ◌≢◌, ℕ, ◌+◌, ◌≤◌, List, [], length, false, Option, Some, option_map, slice_get}
use Rattle.log_model.specs.declared.entry.Entry.{Entry}
use Rattle.fleet.specs.Fleet.{HostState, VmState, FleetState, host_place, vm_number, vm_of, with_vm_under, with_log}

-- ---- what a name leads to

abbrev pub NamesLeadToHosts : Type 0
NamesLeadToHosts = (name : List ℕ) (place : ℕ) (fleet : FleetState)
    → host_place name fleet ≡ Some place
    → (host : HostState) × (slice_get fleet.hosts place ≡ Some host) × (host.name ≡ name)

abbrev pub NamesLeadToVms : Type 0
NamesLeadToVms = (name : List ℕ) (number : ℕ) (fleet : FleetState)
    → vm_number name fleet ≡ Some number
    → (vm : VmState) × (vm_of number fleet ≡ Some vm) × (vm.name ≡ name)

abbrev pub NumbersAreWithin : Type 0
NumbersAreWithin = (number : ℕ) (vm : VmState) (fleet : FleetState)
    → vm_of number fleet ≡ Some vm → (1 ≤ number) × (number ≤ length fleet.vms)

-- ---- where one log changes

abbrev pub LogIsFound : Type 0
LogIsFound = (number : ℕ) (log : List Entry) (fleet : FleetState)
    → vm_of number (with_log number log fleet)
    ≡ option_map {T = VmState} (λ vm. record vm { log = log }) (vm_of number fleet)

abbrev pub OthersStay : Type 0
OthersStay = (number other : ℕ) (log : List Entry) (fleet : FleetState) → other ≢ number
    → vm_of other (with_log number log fleet) ≡ vm_of other fleet

abbrev pub NumbersStay : Type 0
NumbersStay = (number : ℕ) (log : List Entry) (name : List ℕ) (fleet : FleetState)
    → vm_number name (with_log number log fleet) ≡ vm_number name fleet

abbrev pub HostsStay : Type 0
HostsStay = (number : ℕ) (log : List Entry) (fleet : FleetState)
    → (with_log number log fleet).hosts ≡ fleet.hosts

abbrev pub CountStays : Type 0
CountStays = (number : ℕ) (log : List Entry) (fleet : FleetState)
    → length (with_log number log fleet).vms ≡ length fleet.vms

-- ---- where a machine is added

abbrev pub EarlierStay : Type 0
EarlierStay = (number : ℕ) (name host capacities : List ℕ) (fleet : FleetState)
    → number ≤ length fleet.vms
    → vm_of number (with_vm_under name host capacities fleet) ≡ vm_of number fleet

abbrev pub NewIsFound : Type 0
NewIsFound = (name host capacities : List ℕ) (place : ℕ) (fleet : FleetState)
    → host_place host fleet ≡ Some place
    → vm_of (length fleet.vms + 1) (with_vm_under name host capacities fleet) ≡ Some (record {
      name = name;
      host = place;
      capacities = capacities;
      log = [];
      out = false;
    })

abbrev pub KnownNamesStay : Type 0
KnownNamesStay = (known : List ℕ) (number : ℕ) (name host capacities : List ℕ)
    (fleet : FleetState) → vm_number known fleet ≡ Some number
    → vm_number known (with_vm_under name host capacities fleet) ≡ Some number
