-- A fleet stays sound where a host or a machine is added, and where one machine changes.
use Rattle.std.proofs.Common.{◌≡◌, ◌≢◌, ℕ, ◌+◌, ◌-◌, ◌<◌, ◌≤◌, List, [], ◌∷◌, ◌++◌, map, length, get_or, set, Option, Some, None, All, AllPairs, true, false, refl, ap, ◌∙◌, sym, subst, slice_get, arith, length-append}
use Rattle.std.proofs.lemmas.List.{map-append, length-set}
use Rattle.std.proofs.Math.Seq.{map-set_same}
use Rattle.std.proofs.lemmas.Option.{none-some, slice_get_within, get_or_from_slice_get}
use Rattle.std.proofs.lemmas.List.Elements.{All-push, All-set}
use Rattle.std.proofs.lemmas.List.Quantifiers.{all_pairs_push}
use Rattle.std.specs.List.{position}
use Rattle.std.specs.Str.{bytes_eq}
use Rattle.basics.specs.Spelled.{IsName}
use Rattle.basics.specs.declared.limits.TheConstants.{MAX_HOST_LIMIT}
use Rattle.log_model.specs.Legal.{Legal, all_of}
use Rattle.log_model.specs.declared.entry.TheConstants.{MAX_LOG_ENTRIES}
use Rattle.source_vm.specs.Machine.{may_have_disks}
use Rattle.fleet.specs.declared.limits.TheConstants.{MAX_HOSTS, MAX_VMS}
use Rattle.fleet.specs.Fleet.{HostState, VmState, FleetState, host_place, with_host, with_vm}
use Rattle.fleet.specs.Sound.{IsHost, IsVm, IsFleet}
use Rattle.fleet.proofs.Names.{names_differ}

-- a machine is one among more hosts, too
more_hosts : (few many : ℕ) (vm : VmState) → few ≤ many → IsVm few vm → IsVm many vm
more_hosts few many vm more is = record {
  named = is.named;
  hosted = omega (arith, is.hosted, more);
  disks = is.disks;
  legal = is.legal;
}

-- names that differ still do with a new one behind them
new_behind : {X : Type 0} (name_of : X → List ℕ) (xs : List X) (x : X)
    → position (λ y. bytes_eq (name_of x) (name_of y)) xs ≡ None
    → AllPairs (λ (a b : List ℕ). a ≢ b) (map name_of xs)
    → AllPairs (λ (a b : List ℕ). a ≢ b) (map name_of (xs ++ x ∷ []))
new_behind name_of xs x new differ =
    rw (map-append name_of xs (x ∷ [])) (all_pairs_push (λ (a b : List ℕ). a ≢ b)
    (map name_of xs) (name_of x) differ (names_differ name_of (name_of x) xs new))

pub IsFleet-with_host : (name : List ℕ) (limit : ℕ) (fleet : FleetState) → IsFleet fleet
    → IsName name → 1 ≤ limit → limit ≤ MAX_HOST_LIMIT → host_place name fleet ≡ None
    → length fleet.hosts < MAX_HOSTS → IsFleet (with_host name limit fleet)
IsFleet-with_host name limit fleet is named at_least at_most new room =
    let host : HostState = record { name = name; limit = limit } in
    let longer : length (fleet.hosts ++ host ∷ []) ≡ length fleet.hosts + 1 =
    length-append fleet.hosts (host ∷ []) in
    record {
      hosts = All-push IsHost fleet.hosts host is.hosts
          (record { named = named; at_least = at_least; at_most = at_most });
      vms = λ k d within. more_hosts (length fleet.hosts) (length (fleet.hosts ++ host ∷ [])) _
          (omega (arith, longer)) (is.vms k d within);
      host_names = new_behind (λ (h : HostState). h.name) fleet.hosts host new is.host_names;
      vm_names = is.vm_names;
      few_hosts = omega (arith, longer, room);
      few_vms = is.few_vms;
    }

pub empty_is_legal : (capacities : List ℕ) → Legal (all_of capacities) []
empty_is_legal capacities =
    record { short = omega arith; each = λ place e h. absurd (none-some e h) }

pub IsFleet-with_vm : (name : List ℕ) (place : ℕ) (capacities : List ℕ) (fleet : FleetState)
    → IsFleet fleet → IsName name → place < length fleet.hosts → may_have_disks capacities ≡ true
    → position (λ (vm : VmState). bytes_eq name vm.name) fleet.vms ≡ None
    → length fleet.vms < MAX_VMS → IsFleet (with_vm name place capacities fleet)
IsFleet-with_vm name place capacities fleet is named hosted disks new room =
    let vm : VmState = record {
      name = name;
      host = place;
      capacities = capacities;
      log = [];
      out = false;
    } in
    let longer : length (fleet.vms ++ vm ∷ []) ≡ length fleet.vms + 1 =
    length-append fleet.vms (vm ∷ []) in
    record {
      hosts = is.hosts;
      vms = All-push (IsVm (length fleet.hosts)) fleet.vms vm is.vms (record {
        named = named;
        hosted = hosted;
        disks = disks;
        legal = empty_is_legal capacities;
      });
      host_names = is.host_names;
      vm_names = new_behind (λ (v : VmState). v.name) fleet.vms vm new is.vm_names;
      few_hosts = is.few_hosts;
      few_vms = omega (arith, longer, room);
    }

-- each machine of a fleet is one
pub IsVm-at : (place : ℕ) (vm : VmState) (fleet : FleetState) → IsFleet fleet
    → slice_get fleet.vms place ≡ Some vm → IsVm (length fleet.hosts) vm
IsVm-at place vm fleet is at =
    subst (IsVm (length fleet.hosts)) (get_or_from_slice_get fleet.vms place vm vm at)
    (is.vms place vm (slice_get_within fleet.vms place vm at))

-- where one machine changes, and keeps its name
pub IsFleet-set : (place : ℕ) (old vm : VmState) (fleet : FleetState) → IsFleet fleet
    → slice_get fleet.vms place ≡ Some old → vm.name ≡ old.name → IsVm (length fleet.hosts) vm
    → IsFleet (record fleet { vms = set fleet.vms place vm })
IsFleet-set place old vm fleet is at same is_vm = record {
  hosts = is.hosts;
  vms = All-set (IsVm (length fleet.hosts)) fleet.vms place vm is_vm is.vms;
  host_names = is.host_names;
  vm_names = let names : map (λ (v : VmState). v.name) (set fleet.vms place vm)
      ≡ map (λ (v : VmState). v.name) fleet.vms =
      map-set_same (λ (v : VmState). v.name) fleet.vms place vm vm
      (same ∙ sym (ap (λ (v : VmState). v.name)
      (get_or_from_slice_get fleet.vms place old vm at))) in
      rw names is.vm_names;
  few_hosts = is.few_hosts;
  few_vms = rw (length-set fleet.vms place vm) is.few_vms;
}
