-- Which refusal stands, by what the tests of a call find, one after the other.
use Rattle.std.proofs.Common.{◌≡◌, ℕ, ◌+◌, ◌<◌, ◌≤◌, Bool, true, false, not, cond, List, length, nat_le, Option, Some, None, Result, Ok, Err, IfErr, IsErrAnd, is_some, option_map, refl, ap, ◌∙◌, sym, subst, arith}
use Rattle.std.proofs.lemmas.List.{length-map}
use Rattle.std.proofs.lemmas.Bool.{le-leb, lt-leb}
use Rattle.basics.proofs.Options.{is_some-map}
use Rattle.basics.specs.Refusal.{IsRefusedOr}
use Rattle.source_vm.specs.Machine.{may_have_disks}
use Rattle.fleet.specs.declared.limits.TheConstants.{MAX_HOSTS, MAX_VMS}
use Rattle.fleet.specs.declared.vm.Host.{Host}
use Rattle.fleet.specs.declared.vm.Vm.{Vm}
use Rattle.fleet.specs.declared.refusals.FleetRefused.{FleetRefused}
use Rattle.fleet.specs.declared.refusals.FleetRefused.TheVariants.{NameTaken, UnknownHost, TooMany, BadSize, NoMemory}
use Rattle.fleet.specs.Fleet.{FleetState, host_place, vm_number}
use Rattle.fleet.specs.Refusals.{add_host_refusal, add_vm_refusal}
use Rattle.fleet.specs.NameMap.{place_of}
use Rattle.fleet.specs.Fields.{host_state, vm_state, fleet_state}
use Rattle.fleet.proofs.FieldLemmas.{host_place-kept, vm_place-kept}

-- where none stands, only the free one comes
pub none_stands : {T : Type 0} (refusal : Option FleetRefused) (result : Result T FleetRefused)
    → refusal ≡ None → IsErrAnd result (λ e. e ≡ NoMemory) → IsRefusedOr refusal NoMemory result
none_stands refusal result none h =
    rw none (elim result as (λ r. IsErrAnd r (λ e. e ≡ NoMemory) → IfErr r (λ e. e ≡ NoMemory)) [
      | Ok answer ↦ λ _. tt
      | Err e ↦ λ same. same
    ] h)

module _ (hosts : List (List ℕ × Host)) (vms : List (List ℕ × Vm)) (fleet : FleetState)
    (shown : fleet_state hosts vms ≡ fleet) (name : List ℕ) where
  host_is : host_place name fleet ≡ place_of name hosts
  host_is = ap (host_place name) (sym shown) ∙ host_place-kept hosts vms name

  host_count : length fleet.hosts ≡ length hosts
  host_count = ap (λ (f : FleetState). length f.hosts) (sym shown) ∙ length-map hosts host_state

  pub host_taken : is_some (place_of name hosts) ≡ true
      → add_host_refusal name fleet ≡ Some NameTaken
  host_taken there = rw (ap is_some host_is ∙ there) refl

  pub host_full : is_some (place_of name hosts) ≡ false → MAX_HOSTS ≤ length hosts
      → add_host_refusal name fleet ≡ Some TooMany
  host_full new full =
      rw (ap is_some host_is ∙ new, host_count, le-leb MAX_HOSTS (length hosts) full) refl

  pub host_fits : is_some (place_of name hosts) ≡ false → length hosts < MAX_HOSTS
      → add_host_refusal name fleet ≡ None
  host_fits new room =
      rw (ap is_some host_is ∙ new, host_count, lt-leb MAX_HOSTS (length hosts) room) refl

  pub vm_is : vm_number name fleet ≡ option_map (λ place. place + 1) (place_of name vms)
  vm_is = ap (vm_number name) (sym shown)
      ∙ ap (option_map (λ place. place + 1)) (vm_place-kept hosts vms name)

  vm_count : length fleet.vms ≡ length vms
  vm_count = ap (λ (f : FleetState). length f.vms) (sym shown) ∙ length-map vms vm_state

  is_vm : (b : Bool) → is_some (place_of name vms) ≡ b → is_some (vm_number name fleet) ≡ b
  is_vm b h = ap is_some vm_is ∙ is_some-map _ (place_of name vms) ∙ h

  module _ (host capacities : List ℕ) where
    pub vm_taken : is_some (place_of name vms) ≡ true
        → add_vm_refusal name host capacities fleet ≡ Some NameTaken
    vm_taken there = rw (is_vm true there) refl

    pub no_host : is_some (place_of name vms) ≡ false → place_of host hosts ≡ None
        → add_vm_refusal name host capacities fleet ≡ Some UnknownHost
    no_host new unknown = rw (is_vm false new, host_at ∙ unknown) refl
      where
        host_at : host_place host fleet ≡ place_of host hosts
        host_at = ap (host_place host) (sym shown) ∙ host_place-kept hosts vms host

    module _ (place : ℕ) (new : is_some (place_of name vms) ≡ false)
        (known : place_of host hosts ≡ Some place) where
      at : host_place host fleet ≡ Some place
      at = ap (host_place host) (sym shown) ∙ host_place-kept hosts vms host ∙ known

      pub bad_size : may_have_disks capacities ≡ false
          → add_vm_refusal name host capacities fleet ≡ Some BadSize
      bad_size bad = rw (is_vm false new, at, bad) refl

      pub vms_full : may_have_disks capacities ≡ true → MAX_VMS ≤ length vms
          → add_vm_refusal name host capacities fleet ≡ Some TooMany
      vms_full good full =
          rw (is_vm false new, at, good, vm_count, le-leb MAX_VMS (length vms) full) refl

      pub vm_fits : may_have_disks capacities ≡ true → length vms < MAX_VMS
          → add_vm_refusal name host capacities fleet ≡ None
      vm_fits good room =
          rw (is_vm false new, at, good, vm_count, lt-leb MAX_VMS (length vms) room) refl
