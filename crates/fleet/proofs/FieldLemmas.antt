-- What a fleet keeps stays what its definition asks, and shows what callers see.
use Rattle.std.proofs.Common.{◌≡◌, ℕ, ◌+◌, ◌<◌, ◌≤◌, List, [], ◌∷◌, ◌++◌, map, length, Option, Some, None, refl, ap, ◌∙◌, sym, subst, slice_get, true, arith}
use Rattle.std.proofs.lemmas.List.{map-append, length-map}
use Rattle.std.specs.List.{position}
use Rattle.std.specs.Str.{bytes_eq}
use Rattle.basics.specs.Spelled.{IsName}
use Rattle.basics.specs.declared.limits.TheConstants.{MAX_HOST_LIMIT}
use Rattle.source_vm.specs.Machine.{may_have_disks, fresh}
use Rattle.fleet.specs.declared.limits.TheConstants.{MAX_HOSTS, MAX_VMS}
use Rattle.fleet.specs.declared.vm.Host.{Host}
use Rattle.fleet.specs.declared.vm.Vm.{Vm}
use Rattle.fleet.specs.Fleet.{VmState, FleetState, host_place, with_host, with_vm}
use Rattle.fleet.specs.Sound.{IsFleet}
use Rattle.fleet.specs.NameMap.{place_of, with_value_at}
use Rattle.fleet.specs.Vm.{machine_under}
use Rattle.fleet.specs.Fields.{host_state, vm_state, fleet_state, IsKept}
use Rattle.fleet.proofs.Places.{position-map}
use Rattle.fleet.proofs.StaysSound.{IsFleet-with_host, IsFleet-with_vm, IsFleet-set}
use Rattle.fleet.proofs.Each.{Each-push, Each-set}

module _ (hosts : List (List ℕ × Host)) (vms : List (List ℕ × Vm)) where
  pub host_place-kept : (name : List ℕ)
      → host_place name (fleet_state hosts vms) ≡ place_of name hosts
  host_place-kept name = position-map (λ host. bytes_eq name host.name) host_state hosts

  pub vm_place-kept : (name : List ℕ)
      → position (λ vm. bytes_eq name vm.name) (fleet_state hosts vms).vms ≡ place_of name vms
  vm_place-kept name = position-map (λ vm. bytes_eq name vm.name) vm_state vms

  pub shows_host : (name : List ℕ) (host : Host) → fleet_state (hosts ++ (name, host) ∷ []) vms
      ≡ with_host name host.limit (fleet_state hosts vms)
  shows_host name host = ap (λ all. record { hosts = all; vms = map vm_state vms })
      (map-append host_state hosts ((name, host) ∷ []))

  pub IsKept-host : (name : List ℕ) (host : Host) → IsKept hosts vms → IsName name
      → 1 ≤ host.limit → host.limit ≤ MAX_HOST_LIMIT → place_of name hosts ≡ None
      → length hosts < MAX_HOSTS → IsKept (hosts ++ (name, host) ∷ []) vms
  IsKept-host name host is named at_least at_most new room = record {
    sound = rw (shows_host name host) (IsFleet-with_host name host.limit (fleet_state hosts vms)
        is.sound named at_least at_most (host_place-kept name ∙ new)
        (rw (length-map hosts host_state) room));
    numbered = is.numbered;
  }

  module _ (name : List ℕ) (vm : Vm) (place : ℕ) (capacities : List ℕ) (hosted : vm.host ≡ place)
      (new_one : vm.machine ≡ Some (fresh (length vms + 1) capacities)) where
    pub shows_vm : fleet_state hosts (vms ++ (name, vm) ∷ [])
        ≡ with_vm name place capacities (fleet_state hosts vms)
    shows_vm = rw (map-append vm_state vms ((name, vm) ∷ []), hosted, new_one) refl

    pub IsKept-vm : IsKept hosts vms → IsName name → place < length hosts
        → may_have_disks capacities ≡ true → place_of name vms ≡ None → length vms < MAX_VMS
        → IsKept hosts (vms ++ (name, vm) ∷ [])
    IsKept-vm is named there disks new room = record {
      sound = rw shows_vm (IsFleet-with_vm name place capacities (fleet_state hosts vms) is.sound
          named (rw (length-map hosts host_state) there) disks (vm_place-kept name ∙ new)
          (rw (length-map vms vm_state) room));
      numbered = Each-push (λ k entry. (machine_under entry.1).number ≡ k + 1) vms (name, vm)
          is.numbered (rw new_one refl);
    }
