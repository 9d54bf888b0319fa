-- A machine that is found in a fleet is one that is in, under its number.
use Rattle.std.proofs.Common.{◌≡◌, ℕ, Bool, true, false, Option, Some, None, option_map, option_and_then, if◌then◌else◌, refl, sym}
use Rattle.std.proofs.lemmas.Option.{none-some, same_Some}
use Rattle.source_vm.specs.Machine.{MachineState}
use Rattle.fleet.specs.Fleet.{VmState, FleetState, vm_of, machine_of}

pub record IsIn (number : ℕ) (vm : VmState) (m : MachineState) (fleet : FleetState) : Type 0 where
  pub there : vm_of number fleet ≡ Some vm
  pub within : vm.out ≡ false
  pub same : m ≡ record { number = number; capacities = vm.capacities; log = vm.log }

pub is_in : (number : ℕ) (m : MachineState) (fleet : FleetState)
    → machine_of number fleet ≡ Some m → (vm : VmState) × IsIn number vm m fleet
is_in number m fleet h = by (vm_of number fleet) refl h
  where
    by : (o : Option VmState) → vm_of number fleet ≡ o
        → option_map {T = VmState} {U = MachineState}
        (λ vm. record { number = number; capacities = vm.capacities; log = vm.log })
        (option_and_then (λ vm. if vm.out then None else Some vm) o) ≡ Some m
        → (vm : VmState) × IsIn number vm m fleet
    by None is e = absurd (none-some m e)
    by (Some vm) is e = in_or_out vm.out refl e
      where
        in_or_out : (out : Bool) → vm.out ≡ out
            → option_map {T = VmState} {U = MachineState}
            (λ v. record { number = number; capacities = v.capacities; log = v.log })
            (if out then None else Some vm) ≡ Some m
            → (v : VmState) × IsIn number v m fleet
        in_or_out true out f = absurd (none-some m f)
        in_or_out false out f =
            (vm, record { there = is; within = out; same = sym (same_Some _ m f) })
