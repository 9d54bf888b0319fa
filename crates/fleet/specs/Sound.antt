-- What is true of every fleet: its hosts and machines have names that are told apart, hosts have
-- limits, and each machine has a host and a log that may be.
use Rattle.std.specs.Prelude.{◌≡◌, ◌≢◌, ℕ, ◌<◌, ◌≤◌, length, map, All, AllPairs, true, false}
use Rattle.basics.specs.Spelled.{IsName}
use Rattle.basics.specs.declared.limits.TheConstants.{MAX_HOST_LIMIT}
use Rattle.log_model.specs.Legal.{Legal, all_of}
use Rattle.source_vm.specs.Machine.{may_have_disks}
use Rattle.fleet.specs.declared.limits.TheConstants.{MAX_HOSTS, MAX_VMS}
use Rattle.fleet.specs.Fleet.{HostState, VmState, FleetState}

pub record IsHost (host : HostState) : Type 0 where
  pub named : IsName host.name
  pub at_least : 1 ≤ host.limit
  pub at_most : host.limit ≤ MAX_HOST_LIMIT

-- a machine among so many hosts
pub record IsVm (hosts : ℕ) (vm : VmState) : Type 0 where
  pub named : IsName vm.name
  pub hosted : vm.host < hosts
  pub disks : may_have_disks vm.capacities ≡ true
  pub legal : Legal (all_of vm.capacities) vm.log

pub record IsFleet (fleet : FleetState) : Type 0 where
  pub hosts : All IsHost fleet.hosts
  pub vms : All (IsVm (length fleet.hosts)) fleet.vms
  pub host_names : AllPairs (λ name later. name ≢ later) (map (λ host. host.name) fleet.hosts)
  pub vm_names : AllPairs (λ name later. name ≢ later) (map (λ vm. vm.name) fleet.vms)
  pub few_hosts : length fleet.hosts ≤ MAX_HOSTS
  pub few_vms : length fleet.vms ≤ MAX_VMS

-- no machine is out
abbrev pub AllAreIn : FleetState → Type 0
AllAreIn fleet = All (λ vm. vm.out ≡ false) fleet.vms
