-- The fleet and the records go on with each command, and so with a session.
use Rattle.std.proofs.Common.{◌≡◌, ℕ, false, List, [], ◌∷◌, ◌++◌, Option, Some, None, refl, ap, subst, ◌∙◌}
use Rattle.std.specs.Prelude.{unwrap_or}
use Rattle.std.specs.Option.{option_map_or}
use Rattle.std.proofs.lemmas.Option.{slice_get_within}
use Rattle.basics.specs.Prefix.{IsPrefix}
use Rattle.basics.proofs.ItemAt.{slice_get-front}
use Rattle.basics.proofs.Prefix.{prefix-self, prefix-appended, prefix-trans}
use Rattle.cmd_json.specs.declared.command.Command.{Command}
use Rattle.cmd_json.specs.declared.command.Command.TheVariants.{Host, Vm, Enable, Write, Snapshot, Remove, Power, Reset, Plan, Start, Cutover}
use Rattle.log_model.specs.declared.entry.Act.{Act}
use Rattle.log_model.specs.declared.entry.Entry.{Entry}
use Rattle.source_vm.specs.Machine.{MachineState}
use Rattle.fleet.specs.Fleet.{HostState, VmState, FleetState, host_place, with_vm, with_log, VmGoesOn, FleetGoesOn}
use Rattle.fleet.specs.Laws.{GoesOnFurther, HostsGoOn, VmsGoOn}
use Rattle.fleet.proofs.Found.{logs_go_on}
use Rattle.fleet.proofs.Logs.{goes_on_itself, vm_stays}
use Rattle.answers.specs.Answer.{Answer}
use Rattle.log_model.specs.Entry.{entry_of}
use Rattle.fleet_commands.specs.Machines.{machine_named, after_act}
use Rattle.fleet_commands.specs.commands.Deed.{act_of}
use Rattle.fleet_commands.specs.commands.Snapshot.{snap_act}
use Rattle.fleet_commands.specs.commands.Write.{fill_act}
use Rattle.fleet_commands.specs.declared.deed.Deed.TheVariants as deed
use Rattle.fleet_commands.specs.declared.host.TheConstants.{DEFAULT_HOST_LIMIT}
use Rattle.fleet_commands.proofs.Lifting.{vm_here}
use Rattle.migrate_server.specs.Session.{State, power_deed, records_of, state_after, Session}
use Rattle.migrate_server.proofs.EachCommand.{session_keeps}

-- ---- the laws of a fleet

vm_further : (first second third : VmState) → VmGoesOn first second → VmGoesOn second third
    → VmGoesOn first third
vm_further first second third p q = record {
  name = q.name ∙ p.name;
  host = q.host ∙ p.host;
  capacities = q.capacities ∙ p.capacities;
  log = prefix-trans first.log second.log third.log p.log q.log;
}

goes_on_further : GoesOnFurther
goes_on_further first second third p q = record {
  hosts = prefix-trans first.hosts second.hosts third.hosts p.hosts q.hosts;
  vms = λ place vm at.
      let mid = p.vms place vm at in
      let last = q.vms place mid.0 mid.1 in
      (last.0, last.1, vm_further vm mid.0 last.0 mid.2 last.2);
}

hosts_go_on : HostsGoOn
hosts_go_on name limit fleet = record {
  hosts =
      let added : HostState = record { name = name; limit = limit } in
      prefix-appended fleet.hosts (added ∷ []);
  vms = (goes_on_itself fleet).vms;
}

added_goes_on : (added : VmState) (fleet : FleetState)
    → FleetGoesOn fleet (record fleet { vms = fleet.vms ++ added ∷ [] })
added_goes_on added fleet = record {
  hosts = prefix-self fleet.hosts;
  vms = λ place vm at.
      let front = slice_get-front fleet.vms (added ∷ []) place
      (slice_get_within fleet.vms place vm at) in
      (vm, front ∙ at, vm_stays vm);
}

vms_go_on : VmsGoOn
vms_go_on name host capacities fleet = by (host_place host fleet)
  where
    by : (o : Option ℕ) → FleetGoesOn fleet
        (option_map_or (λ place. with_vm name place capacities fleet) o fleet)
    by None = goes_on_itself fleet
    by (Some place) = added_goes_on (record {
      name = name;
      host = place;
      capacities = capacities;
      log = [];
      out = false;
    }) fleet

acts_go_on : (vm : List ℕ) (act : List Entry → Act) (fleet : FleetState)
    → FleetGoesOn fleet (after_act vm act fleet)
acts_go_on vm act fleet = by (machine_named vm fleet) refl
  where
    by : (o : Option MachineState) → machine_named vm fleet ≡ o → FleetGoesOn fleet
        (option_map_or (λ m. with_log m.number (m.log ++ entry_of (act m.log) ∷ []) fleet) o fleet)
    by None is = goes_on_itself fleet
    by (Some m) is =
        let here = vm_here vm m fleet is in
        let v : VmState = here.0 in
        let log : List Entry = m.log ++ entry_of (act m.log) ∷ [] in
        let same : m.log ≡ v.log = ap (λ (x : MachineState). x.log) here.1.same in
        let longer : IsPrefix m.log log =
        prefix-appended m.log (entry_of (act m.log) ∷ []) in
        logs_go_on m.number log v fleet here.1.there
        (subst (λ (l : List Entry). IsPrefix l log) same longer)

-- ---- commands

pub goes_then : (command : Command) (s : State) → FleetGoesOn s.fleet (state_after command s).fleet
goes_then (Host host limit) s = hosts_go_on host (unwrap_or limit DEFAULT_HOST_LIMIT) s.fleet
goes_then (Vm vm host disks) s = vms_go_on vm host disks s.fleet
goes_then (Enable vm) s = acts_go_on vm (λ log. act_of deed.Enable) s.fleet
goes_then (Write vm disk first count fill) s =
    acts_go_on vm (λ log. fill_act disk first count fill) s.fleet
goes_then (Snapshot vm) s = acts_go_on vm snap_act s.fleet
goes_then (Remove vm snapshot) s = acts_go_on vm (λ log. act_of (deed.Remove snapshot)) s.fleet
goes_then (Power vm on) s = acts_go_on vm (λ log. act_of (power_deed on)) s.fleet
goes_then (Reset vm disk) s = acts_go_on vm (λ log. act_of (deed.Reset disk)) s.fleet
goes_then _ s = goes_on_itself s.fleet

pub session_goes_on : (old new : State) (lines : List (List ℕ)) (answers : List Answer)
    → Session old lines answers new → FleetGoesOn old.fleet new.fleet
session_goes_on old new lines answers h =
    session_keeps (λ (s : State). s.fleet) FleetGoesOn goes_on_itself goes_on_further goes_then
    (λ a b same. same.fleet) old new lines answers h

-- ---- the records

records_then : (command : Command) (s : State)
    → IsPrefix s.records (state_after command s).records
records_then (Plan name vms interval) s =
    prefix-appended s.records (records_of (Plan name vms interval) s)
records_then (Start plan) s = prefix-appended s.records (records_of (Start plan) s)
records_then (Cutover plan at) s = prefix-appended s.records (records_of (Cutover plan at) s)
records_then _ s = prefix-self s.records

pub session_keeps_records : (old new : State) (lines : List (List ℕ)) (answers : List Answer)
    → Session old lines answers new → IsPrefix old.records new.records
session_keeps_records old new lines answers h =
    session_keeps (λ (s : State). s.records) IsPrefix prefix-self prefix-trans records_then
    (λ a b same. same.records) old new lines answers h
