-- What a migration owns of the log of a machine stays its own under each command that isn't
-- refused: operators take snapshots of their own, and remove none of a migration.
use Rattle.std.proofs.Common.{◌≡◌, ◌≢◌, ℕ, ◌+◌, ◌-◌, ◌≤◌, ◌==◌, Bool, true, false, cond, List, [], ◌∷◌, ◌++◌, length, Option, Some, None, option_and_then, option_map, if◌then◌else◌, refl, sym, ap, subst, ◌∙◌, arith}
use Rattle.std.specs.Prelude.{slice_get, nat_le}
use Rattle.std.specs.Option.{option_map_or}
use Rattle.std.proofs.lemmas.Bool.{eqb-true, eq-eqb, false≢true}
use Rattle.std.proofs.lemmas.Option.{none-some, option_and_then_some, same_Some}
use Rattle.basics.proofs.ItemAt.{slice_get-front}
use Rattle.cmd_json.specs.declared.command.Command.{Command}
use Rattle.cmd_json.specs.declared.command.Command.TheVariants.{Host, Vm, Enable, Write, Snapshot, Remove, Power, Reset}
use Rattle.log_model.specs.declared.entry.Owner.{Owner}
use Rattle.log_model.specs.declared.entry.Owner.TheVariants.{Operator, Migration as OfMigration}
use Rattle.log_model.specs.declared.entry.Act.{Act}
use Rattle.log_model.specs.declared.entry.Act.TheVariants as acts
use Rattle.log_model.specs.declared.entry.Entry.{Entry}
use Rattle.log_model.specs.declared.entry.TheConstants.{MIGRATION_CALLER}
use Rattle.log_model.specs.Legal.{Legal, all_of, owner_of, owner_after_act, taken}
use Rattle.log_model.specs.Refusals.{owner_refusal}
use Rattle.log_model.proofs.OwnedLaws.{owned_taken, owner_of-last}
use Rattle.source_vm.specs.Machine.{MachineState}
use Rattle.fleet.specs.Fleet.{VmState, FleetState, host_place, machine_of, vm_number, vm_of, with_vm, with_log}
use Rattle.fleet.specs.Sound.{IsFleet}
use Rattle.fleet.proofs.Logs.{is_within, log_is_found, others_stay}
use Rattle.answers.specs.declared.refusal.Refusal.{Refusal}
use Rattle.answers.specs.declared.refusal.Refusal.TheVariants.{UnknownVm}
use Rattle.log_model.specs.Entry.{entry_of}
use Rattle.fleet_commands.specs.Machines.{machine_named, after_act}
use Rattle.fleet_commands.specs.Refusals.{link_told}
use Rattle.fleet_commands.specs.commands.Deed.{act_of}
use Rattle.fleet_commands.specs.commands.Snapshot.{snap_act}
use Rattle.fleet_commands.specs.commands.Write.{fill_act}
use Rattle.fleet_commands.specs.declared.deed.Deed.TheVariants as deed
use Rattle.fleet_commands.proofs.Lifting.{vm_here}
use Rattle.migrate_server.specs.Session.{State, power_deed, refusal_of, state_after}
use Rattle.migrate_server.proofs.Growing.{OwnedStay, legal_machine}

-- ---- one entry

-- the act leaves what migrations own of the log before it
abbrev Leaves : List Entry → Act → Type 0
Leaves log act = (snap mig : ℕ) → owner_of snap log ≡ Some (OfMigration mig)
    → owner_after_act snap (owner_of snap log) act ≡ Some (OfMigration mig)

snap_owner : (b : Bool) (id snap mig : ℕ) (owner : Option Owner) → (id == snap) ≡ b → id ≢ snap
    → owner ≡ Some (OfMigration mig)
    → (if b then Some Operator else owner) ≡ Some (OfMigration mig)
snap_owner true id snap mig owner is other own = absurd (other (eqb-true id snap is))
snap_owner false id snap mig owner is other own = own

snap_leaves : (caps : List ℕ) (log : List Entry) → Legal (all_of caps) log
    → Leaves log (snap_act log)
snap_leaves caps log legal snap mig own =
    snap_owner (taken log + 1 == snap) (taken log + 1) snap mig (owner_of snap log) refl
    (λ is. let below = owned_taken (all_of caps) log legal snap (OfMigration mig) own in
    absurd (omega (arith, is, below))) own

-- an operator doesn't remove what a migration owns
not_told : (log : List Entry) (mig : ℕ) (owner : Option Owner) → owner ≡ Some (OfMigration mig)
    → option_and_then link_told (owner_refusal MIGRATION_CALLER Operator owner log) ≡ None → ⊥
not_told log mig None is none = absurd (none-some (OfMigration mig) is)
not_told log mig (Some Operator) is none = cc
not_told log mig (Some (OfMigration other)) is none = cc

removed_owner : (b : Bool) (id snap mig : ℕ) (log : List Entry) → (id == snap) ≡ b
    → option_and_then link_told (owner_refusal MIGRATION_CALLER Operator (owner_of id log) log)
    ≡ None → owner_of snap log ≡ Some (OfMigration mig)
    → (if b then None else owner_of snap log) ≡ Some (OfMigration mig)
removed_owner true id snap mig log is none own = absurd (not_told log mig (owner_of id log)
    (ap (λ (s : ℕ). owner_of s log) (eqb-true id snap is) ∙ own) none)
removed_owner false id snap mig log is none own = own

-- ---- one machine's log

same_vm : (fleet : FleetState) → OwnedStay fleet fleet
same_vm fleet number vm later there now snap mig own =
    subst (λ (v : VmState). owner_of snap v.log ≡ Some (OfMigration mig))
    (same_Some vm later (sym there ∙ now)) own

-- where one machine's log has one entry more
entry_owned : (m : MachineState) (act : Act) (v : VmState) (fleet : FleetState)
    → vm_of m.number fleet ≡ Some v → m.log ≡ v.log → Leaves m.log act
    → OwnedStay fleet (with_log m.number (m.log ++ entry_of act ∷ []) fleet)
entry_owned m act v fleet here log_is leaves number vm later there now snap mig own =
    at (number == m.number) refl
  where
    log : List Entry
    log = m.log ++ entry_of act ∷ []

    at : (b : Bool) → (number == m.number) ≡ b → owner_of snap later.log ≡ Some (OfMigration mig)
    at false e = same_vm fleet number vm later there
        (sym (others_stay m.number number log fleet
        (λ same. false≢true (sym e ∙ eq-eqb number m.number same))) ∙ now) snap mig own
    at true e =
        let same : number ≡ m.number = eqb-true number m.number e in
        let vm_is : v ≡ vm = same_Some v vm
        (sym here ∙ ap (λ (n : ℕ). vm_of n fleet) (sym same) ∙ there) in
        let later_is : record v { log = log } ≡ later = same_Some (record v { log = log }) later
        (sym (ap (option_map {T = VmState} (λ x. record x { log = log })) here)
        ∙ sym (log_is_found m.number log fleet)
        ∙ ap (λ (n : ℕ). vm_of n (with_log m.number log fleet)) (sym same) ∙ now) in
        let owned = ap (owner_of snap) (log_is ∙ ap (λ (x : VmState). x.log) vm_is) ∙ own in
        ap (λ (x : VmState). owner_of snap x.log) (sym later_is)
        ∙ owner_of-last snap m.log (entry_of act) ∙ leaves snap mig owned

act_owned : (vm : List ℕ) (act : List Entry → Act) (fleet : FleetState)
    → ((m : MachineState) → machine_named vm fleet ≡ Some m → Leaves m.log (act m.log))
    → OwnedStay fleet (after_act vm act fleet)
act_owned vm act fleet leaves = by (machine_named vm fleet) refl
  where
    by : (o : Option MachineState) → machine_named vm fleet ≡ o → OwnedStay fleet
        (option_map_or (λ m. with_log m.number (m.log ++ entry_of (act m.log) ∷ []) fleet) o fleet)
    by None is = same_vm fleet
    by (Some m) is =
        let here = vm_here vm m fleet is in
        entry_owned m (act m.log) here.0 fleet here.1.there
        (ap (λ (x : MachineState). x.log) here.1.same) (leaves m is)

added_owned : (added : VmState) (fleet : FleetState)
    → OwnedStay fleet (record fleet { vms = fleet.vms ++ added ∷ [] })
added_owned added fleet number vm later there now snap mig own =
    let within = is_within number vm fleet there in
    same_vm fleet number vm later there (by (nat_le 1 number) now within) snap mig own
  where
    by : (b : Bool) → (if b then slice_get (fleet.vms ++ added ∷ []) (number - 1) else None)
        ≡ Some later → (1 ≤ number) × (number ≤ length fleet.vms)
        → (if b then slice_get fleet.vms (number - 1) else None) ≡ Some later
    by true is within =
        sym (slice_get-front fleet.vms (added ∷ []) (number - 1)
        (omega (arith, within.0, within.1))) ∙ is
    by false is within = absurd (none-some later is)

vm_owned : (vm : List ℕ) (place : Option ℕ) (disks : List ℕ) (fleet : FleetState)
    → OwnedStay fleet (option_map_or (λ place. with_vm vm place disks fleet) place fleet)
vm_owned vm None disks fleet = same_vm fleet
vm_owned vm (Some place) disks fleet = added_owned (record {
  name = vm;
  host = place;
  capacities = disks;
  log = [];
  out = false;
}) fleet

-- ---- commands

named_legal : (vm : List ℕ) (m : MachineState) (fleet : FleetState) → IsFleet fleet
    → machine_named vm fleet ≡ Some m → Legal (all_of m.capacities) m.log
named_legal vm m fleet is found = option_and_then_some (λ number. machine_of number fleet)
    (vm_number vm fleet) m found (λ number at there. legal_machine number m fleet is there)

removal_told : (found : Option MachineState) (m : MachineState) (by : MachineState → Option Refusal)
    → found ≡ Some m → option_map_or by found (Some UnknownVm) ≡ None → by m ≡ None
removal_told found m by is none =
    sym (ap (λ (o : Option MachineState). option_map_or by o (Some UnknownVm)) is) ∙ none

pub owned_then : (command : Command) (s : State) → IsFleet s.fleet
    → refusal_of command s ≡ None → OwnedStay s.fleet (state_after command s).fleet
owned_then (Host host limit) s is none = same_vm s.fleet
owned_then (Vm vm host disks) s is none = vm_owned vm (host_place host s.fleet) disks s.fleet
owned_then (Enable vm) s is none =
    act_owned vm (λ log. act_of deed.Enable) s.fleet (λ m found snap mig own. own)
owned_then (Write vm disk first count fill) s is none =
    act_owned vm (λ log. fill_act disk first count fill) s.fleet (λ m found snap mig own. own)
owned_then (Snapshot vm) s is none = act_owned vm snap_act s.fleet
    (λ m found. snap_leaves m.capacities m.log (named_legal vm m s.fleet is found))
owned_then (Remove vm snapshot) s is none =
    act_owned vm (λ log. act_of (deed.Remove snapshot)) s.fleet (λ m found snap mig own.
    removed_owner (snapshot == snap) snapshot snap mig m.log refl
    (removal_told (machine_named vm s.fleet) m _ found none) own)
owned_then (Power vm true) s is none =
    act_owned vm (λ log. act_of deed.On) s.fleet (λ m found snap mig own. own)
owned_then (Power vm false) s is none =
    act_owned vm (λ log. act_of deed.Off) s.fleet (λ m found snap mig own. own)
owned_then (Reset vm disk) s is none =
    act_owned vm (λ log. act_of (deed.Reset disk)) s.fleet (λ m found snap mig own. own)
owned_then _ s is none = same_vm s.fleet
