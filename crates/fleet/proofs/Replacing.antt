-- What a fleet shows where what stands at one place of its machines is replaced, and that it stays
-- what its definition asks.
use Rattle.std.proofs.Common.{◌≡◌, ℕ, zero, suc, ◌+◌, ◌-◌, ◌<◌, ◌≤◌, Bool, true, false, List, map, length, set, Option, Some, None, unwrap_or, option_map, IsSomeAnd, nat_le, refl, ap, ◌∙◌, sym, subst, slice_get, take, arith}
use Rattle.std.specs.Option.{option_map_or}
use Rattle.std.proofs.lemmas.List.{map-set}
use Rattle.std.proofs.lemmas.Option.{none-some, same_Some, slice_get-map}
use Rattle.log_model.specs.declared.entry.TheConstants.{MIGRATION_CALLER}
use Rattle.log_model.specs.Legal.{Legal, all_of}
use Rattle.log_model.specs.Link.{LinkState}
use Rattle.source_vm.specs.Machine.{MachineState, link_of}
use Rattle.fleet.specs.declared.vm.Host.{Host}
use Rattle.fleet.specs.declared.vm.Vm.{Vm}
use Rattle.fleet.specs.Fleet.{VmState, FleetState, vm_of, vm_in, machine_of, with_vm_at}
use Rattle.fleet.specs.Lending.{lifted, after_lift, after_lower, IsOver, MayGoBack}
use Rattle.fleet.specs.NameMap.{value_at, with_value_at}
use Rattle.fleet.specs.Vm.{machine_under}
use Rattle.fleet.specs.Fields.{vm_state, fleet_state, IsKept}
use Rattle.fleet.proofs.Each.{Each-set}
use Rattle.fleet.proofs.StaysSound.{IsFleet-set, IsVm-at}

-- where a value stands, its name does
pub entry_at : {V : Type 0} (place : ℕ) (entries : List (List ℕ × V)) (value : V)
    → value_at place entries ≡ Some value
    → (name : List ℕ) × (slice_get entries place ≡ Some (name, value))
entry_at {V} place entries value at = by (slice_get entries place) refl at
  where
    by : (o : Option (List ℕ × V)) → slice_get entries place ≡ o
        → option_map (λ (e : List ℕ × V). e.1) o ≡ Some value
        → (name : List ℕ) × (slice_get entries place ≡ Some (name, value))
    by None is h = absurd (none-some value h)
    by (Some e) is h =
        (e.0, is ∙ ap (λ v. Some (e.0, v)) (same_Some e.1 value h))

-- the machine with a number is the one at the place below it
pub vm_of-at : (number place : ℕ) (fleet : FleetState) → number ≡ place + 1
    → vm_of number fleet ≡ slice_get fleet.vms place
vm_of-at number place fleet is =
    let some : nat_le 1 (place + 1) ≡ true = grind arith in
    let back : (place + 1) - 1 ≡ place = omega arith in
    rw (is, some, back) refl

-- a number that has a machine is at least 1
pub some_number : (number : ℕ) (fleet : FleetState) (P : VmState → Type 0)
    → IsSomeAnd (vm_of number fleet) P → 1 ≤ number
some_number zero fleet P h = absurd h
some_number (suc number) fleet P h = omega arith

module _ (hosts : List (List ℕ × Host)) (vms : List (List ℕ × Vm)) (fleet : FleetState)
    (shown : fleet_state hosts vms ≡ fleet) (place : ℕ) (name : List ℕ) (old : Vm)
    (entry : slice_get vms place ≡ Some (name, old)) where
  pub shows_old : slice_get fleet.vms place ≡ Some (vm_state (name, old))
  shows_old = ap (λ (f : FleetState). slice_get f.vms place) (sym shown)
      ∙ slice_get-map vm_state vms place ∙ ap (option_map vm_state) entry

  module _ (new : Vm) where
    pub shows_new : fleet_state hosts (with_value_at place new vms)
        ≡ record fleet { vms = set fleet.vms place (vm_state (name, new)) }
    shows_new = rw (entry, map-set vm_state vms place (name, new))
        (ap (λ (f : FleetState). record f { vms = set f.vms place (vm_state (name, new)) }) shown)

    pub IsKept-replaced : IsKept hosts vms → new.host ≡ old.host
        → (machine_under new).number ≡ (machine_under old).number
        → (machine_under new).capacities ≡ (machine_under old).capacities
        → Legal (all_of (machine_under new).capacities) (machine_under new).log
        → IsKept hosts (with_value_at place new vms)
    IsKept-replaced is host number capacities legal =
        let before = fleet_state hosts vms in
        let at : slice_get before.vms place ≡ Some (vm_state (name, old)) =
        slice_get-map vm_state vms place ∙ ap (option_map vm_state) entry in
        let was = IsVm-at place (vm_state (name, old)) before is.sound at in
        let same : fleet_state hosts (with_value_at place new vms)
        ≡ record before { vms = set before.vms place (vm_state (name, new)) } =
        rw (entry, map-set vm_state vms place (name, new)) refl in
        record {
          sound = rw same (IsFleet-set place (vm_state (name, old)) (vm_state (name, new)) before
              is.sound at refl (record {
                named = was.named;
                hosted = rw host was.hosted;
                disks = rw capacities was.disks;
                legal = legal;
              }));
          numbered = rw entry (Each-set (λ k e. (machine_under e.1).number ≡ k + 1) vms place
              (name, new) is.numbered (number ∙ is.numbered place (name, old) entry));
        }

  same_log : (machine : MachineState) → machine_under old ≡ machine → IsKept hosts vms
      → Legal (all_of machine.capacities) machine.log
  same_log machine same is =
      let at : slice_get (map vm_state vms) place ≡ Some (vm_state (name, old)) =
      slice_get-map vm_state vms place ∙ ap (option_map vm_state) entry in
      subst (λ (m : MachineState). Legal (all_of m.capacities) m.log) same
      (IsVm-at place (vm_state (name, old)) (fleet_state hosts vms) is.sound at).legal

  -- where it isn't out
  module _ (number : ℕ) (is_number : number ≡ place + 1) (machine : MachineState)
      (has : old.machine ≡ Some machine) where
    is_in : vm_in number fleet ≡ Some (vm_state (name, old))
    is_in = rw (vm_of-at number place fleet is_number, shows_old, has) refl

    was : machine_under old ≡ machine
    was = ap (λ m. unwrap_or m old.remembered.value) has

    pub lifts : IsKept hosts vms → lifted number fleet ≡ Some (link_of MIGRATION_CALLER machine)
    lifts is =
        let same : machine.number ≡ number = ap (λ (m : MachineState). m.number) (sym was)
        ∙ is.numbered place (name, old) entry ∙ sym is_number in
        rw (is_in, has, same) refl

    pub shows_lifted : (new : Vm) → new.host ≡ old.host → new.machine ≡ None
        → machine_under new ≡ machine
        → fleet_state hosts (with_value_at place new vms) ≡ after_lift number fleet
    shows_lifted new host out remembered =
        let back : number - 1 ≡ place = omega (arith, is_number) in
        shows_new new ∙ rw (remembered, out, host, is_in, has, back) refl

    pub IsKept-lifted : (new : Vm) → new.host ≡ old.host → machine_under new ≡ machine
        → IsKept hosts vms → IsKept hosts (with_value_at place new vms)
    IsKept-lifted new host remembered is =
        let same : machine_under new ≡ machine_under old = remembered ∙ sym was in
        IsKept-replaced new is host (ap (λ (m : MachineState). m.number) same)
        (ap (λ (m : MachineState). m.capacities) same) (rw remembered (same_log machine was is))

  -- where a link may go back to it
  module _ (link : LinkState) (is_number : link.machine ≡ place + 1)
      (may : MayGoBack link fleet) (new : Vm) (host : new.host ≡ old.host)
      (has : new.machine ≡ Some (record {
        number = link.machine;
        capacities = link.capacities;
        log = link.seen;
      })) where
    is_over : IsOver (vm_state (name, old)) link
    is_over = rw (vm_of-at link.machine place fleet is_number ∙ shows_old) at may

    pub shows_lowered : fleet_state hosts (with_value_at place new vms) ≡ after_lower link fleet
    shows_lowered =
        let back : link.machine - 1 ≡ place = omega (arith, is_number) in
        let found : vm_of link.machine fleet ≡ Some (vm_state (name, old)) =
        vm_of-at link.machine place fleet is_number ∙ shows_old in
        shows_new new ∙ rw (found, has, host, back, is_over.capacities) refl

    pub IsKept-lowered : Legal (all_of link.capacities) link.seen → IsKept hosts vms
        → IsKept hosts (with_value_at place new vms)
    IsKept-lowered legal is = IsKept-replaced new is host
        (rw has (is_number ∙ sym (is.numbered place (name, old) entry)))
        (rw has is_over.capacities) (rw has legal)
