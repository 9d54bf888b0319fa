-- What the commands of a session make of the logs of the fleet, and that its machines stay in.
use Rattle.std.proofs.Common.{◌≡◌, ℕ, ◌-◌, true, false, List, [], ◌∷◌, ◌++◌, Option, Some, None, Result, Ok, Err, refl, sym, ap, subst, ◌∙◌, arith}
use Rattle.std.specs.Prelude.{MatchOption, IsSome, All, unwrap_or}
use Rattle.std.specs.Option.{option_map_or}
use Rattle.std.proofs.lemmas.Option.{get_or_from_slice_get, slice_get_within}
use Rattle.std.proofs.lemmas.List.{append-nil}
use Rattle.std.proofs.lemmas.List.Elements.{All-append, All-cons, All-set}
use Rattle.cmd_json.specs.Line.{command_of}
use Rattle.cmd_json.specs.declared.command.Command.{Command}
use Rattle.cmd_json.specs.declared.command.Command.TheVariants.{Host, Vm, Enable, Write, Snapshot, Remove, Power, Reset}
use Rattle.cmd_json.specs.declared.refusal.CmdRefused.{CmdRefused}
use Rattle.log_model.specs.declared.entry.Act.{Act}
use Rattle.log_model.specs.declared.entry.Entry.{Entry}
use Rattle.source_vm.specs.Machine.{MachineState}
use Rattle.fleet.specs.Fleet.{FleetState, VmState, host_place, vm_of, with_vm, with_vm_at}
use Rattle.fleet.specs.Laws.{LogsStayIn}
use Rattle.fleet.specs.Sound.{AllAreIn}
use Rattle.fleet.proofs.Logs.{at_place}
use Rattle.answers.specs.Answer.{Answer}
use Rattle.fleet_commands.specs.Logs.{log_named, entries_of, entry_at}
use Rattle.fleet_commands.specs.Machines.{machine_named, after_act}
use Rattle.fleet_commands.specs.commands.Deed.{act_of}
use Rattle.fleet_commands.specs.commands.Snapshot.{snap_act}
use Rattle.fleet_commands.specs.commands.Write.{fill_act}
use Rattle.fleet_commands.specs.declared.deed.Deed.TheVariants as deed
use Rattle.fleet_commands.specs.declared.host.TheConstants.{DEFAULT_HOST_LIMIT}
use Rattle.answers.specs.declared.refusal.Refusal.{Refusal}
use Rattle.answers.specs.declared.refusal.Refusal.TheVariants.{UnknownVm}
use Rattle.fleet_commands.proofs.LogLemmas.{acts_add_there, hosts_add_none, vms_add_none, acts_keep_in}
use Rattle.reply_json.specs.declared.reply.Reply.{Reply}
use Rattle.migrate_server.specs.Line.{Means}
use Rattle.migrate_server.specs.Session.{State, power_deed, refusal_of, LateRefusal, state_after, LineAnswers, Session}
use Rattle.migrate_server.specs.Sources.{entries_asked, log_after}
use Rattle.migrate_server.specs.declared.line.Line.{Line}
use Rattle.migrate_server.specs.declared.line.Line.TheVariants.{Blank, Asks, Refuses}
use Rattle.migrate_server.proofs.EachCommand.{line_stays, session_keeps}

-- ---- machines stay in

logs_stay_in : LogsStayIn
logs_stay_in number log fleet all = by (vm_of number fleet) refl
  where
    by : (o : Option VmState) → vm_of number fleet ≡ o → AllAreIn (option_map_or
        (λ vm. with_vm_at number (record vm { log = log }) fleet) o fleet)
    by None is = all
    by (Some vm) is =
        let here = at_place number vm fleet is in
        let found = get_or_from_slice_get fleet.vms (number - 1) vm vm here in
        let below = slice_get_within fleet.vms (number - 1) vm here in
        let stays : vm.out ≡ false =
        subst (λ (v : VmState). v.out ≡ false) found (all (number - 1) vm below) in
        All-set (λ (v : VmState). v.out ≡ false) fleet.vms (number - 1)
        (record vm { log = log }) stays all

-- ---- what is known where nothing refuses a command

pub none_refuses : (refusal : Option Refusal) (P : Type 0)
    → MatchOption refusal P (λ why. None ≡ Some why) → refusal ≡ None
none_refuses None P h = refl
none_refuses (Some why) P h = let e = h in cc

is_known : (found : Option MachineState) (by : MachineState → Option Refusal)
    → option_map_or by found (Some UnknownVm) ≡ None → IsSome found
is_known None by h = let e = h in cc
is_known (Some m) by h = refl

-- ---- one command

acts_once : (vm name : List ℕ) (act : List Entry → Act) (fleet : FleetState)
    (by : MachineState → Option Refusal)
    → option_map_or by (machine_named vm fleet) (Some UnknownVm) ≡ None
    → log_named name (after_act vm act fleet)
    ≡ log_named name fleet ++ entry_at vm name (act (log_named name fleet))
acts_once vm name act fleet by none =
    acts_add_there vm name act fleet (is_known (machine_named vm fleet) by none)

log_then : (name : List ℕ) (command : Command) (s : State) → refusal_of command s ≡ None
    → log_named name (state_after command s).fleet
    ≡ log_named name s.fleet ++ entries_of command name (log_named name s.fleet)
log_then name (Host host limit) s none =
    hosts_add_none host name (unwrap_or limit DEFAULT_HOST_LIMIT) s.fleet
    ∙ sym (append-nil (log_named name s.fleet))
log_then name (Vm vm host disks) s none =
    vms_add_none vm host disks name s.fleet ∙ sym (append-nil (log_named name s.fleet))
log_then name (Enable vm) s none =
    acts_once vm name (λ log. act_of deed.Enable) s.fleet _ none
log_then name (Write vm disk first count fill) s none =
    acts_once vm name (λ log. fill_act disk first count fill) s.fleet _ none
log_then name (Snapshot vm) s none = acts_once vm name snap_act s.fleet _ none
log_then name (Remove vm snapshot) s none =
    acts_once vm name (λ log. act_of (deed.Remove snapshot)) s.fleet _ none
log_then name (Power vm true) s none = acts_once vm name (λ log. act_of deed.On) s.fleet _ none
log_then name (Power vm false) s none = acts_once vm name (λ log. act_of deed.Off) s.fleet _ none
log_then name (Reset vm disk) s none =
    acts_once vm name (λ log. act_of (deed.Reset disk)) s.fleet _ none
log_then name _ s none = sym (append-nil (log_named name s.fleet))

vms_stay_in : (place : Option ℕ) (vm disks : List ℕ) (fleet : FleetState) → AllAreIn fleet
    → AllAreIn (option_map_or (λ place. with_vm vm place disks fleet) place fleet)
vms_stay_in None vm disks fleet h = h
vms_stay_in (Some place) vm disks fleet h =
    let new : VmState =
    record { name = vm; host = place; capacities = disks; log = []; out = false } in
    let none : All (λ (v : VmState). v.out ≡ false) [] = λ k d within. absurd (omega arith) in
    All-append (λ (v : VmState). v.out ≡ false) fleet.vms (new ∷ []) h
    (All-cons (λ (v : VmState). v.out ≡ false) new [] refl none)

pub in_then : (command : Command) (s : State) → AllAreIn s.fleet
    → AllAreIn (state_after command s).fleet
in_then (Host host limit) s h = h
in_then (Vm vm host disks) s h = vms_stay_in (host_place host s.fleet) vm disks s.fleet h
in_then (Enable vm) s h = acts_keep_in logs_stay_in vm (λ log. act_of deed.Enable) s.fleet h
in_then (Write vm disk first count fill) s h =
    acts_keep_in logs_stay_in vm (λ log. fill_act disk first count fill) s.fleet h
in_then (Snapshot vm) s h = acts_keep_in logs_stay_in vm snap_act s.fleet h
in_then (Remove vm snapshot) s h =
    acts_keep_in logs_stay_in vm (λ log. act_of (deed.Remove snapshot)) s.fleet h
in_then (Power vm on) s h = acts_keep_in logs_stay_in vm (λ log. act_of (power_deed on)) s.fleet h
in_then (Reset vm disk) s h =
    acts_keep_in logs_stay_in vm (λ log. act_of (deed.Reset disk)) s.fleet h
in_then _ s h = h

-- ---- one line

line_log : (name line : List ℕ) (what : Line) (reply : Reply) (old new : State)
    → Means line what → LineAnswers what (Ok reply) old new
    → log_named name new.fleet
    ≡ log_named name old.fleet ++ entries_asked (command_of line) name (log_named name old.fleet)
line_log name line Blank reply old new means h = absurd h
line_log name line (Asks command) reply old new means h =
    let log = log_named name old.fleet in
    let none = none_refuses (refusal_of command old) (LateRefusal command None old) h.0 in
    ap (λ (s : State). log_named name s.fleet) h.2 ∙ log_then name command old none
    ∙ ap (λ (read : Result Command CmdRefused). log ++ entries_asked read name log)
    (sym means.reads)
line_log name line (Refuses why) reply old new means h = let e = h.0 in cc

-- ---- a session

pub session_log : (old new : State) (lines : List (List ℕ)) (answers : List Answer)
    → Session old lines answers new → (name : List ℕ)
    → log_named name new.fleet ≡ log_after name (log_named name old.fleet) lines answers
session_log old new [] [] h name = ap (λ (s : State). log_named name s.fleet) h
session_log old new [] (a ∷ answers) h name = absurd h
session_log old new (l ∷ lines) [] h name = absurd h
session_log old new (l ∷ lines) (Ok reply ∷ answers) h name =
    session_log h.0 new lines answers h.2 name
    ∙ ap (λ (log : List Entry). log_after name log lines answers)
    (line_log name l (h.1).0 reply old h.0 (h.1).1 (h.1).2)
session_log old new (l ∷ lines) (Err why ∷ answers) h name =
    session_log h.0 new lines answers h.2 name
    ∙ ap (λ (f : FleetState). log_after name (log_named name f) lines answers)
    (line_stays (h.1).0 why old h.0 (h.1).2).fleet

pub session_in : (old new : State) (lines : List (List ℕ)) (answers : List Answer)
    → Session old lines answers new → AllAreIn old.fleet → AllAreIn new.fleet
session_in old new lines answers h =
    session_keeps (λ (s : State). s.fleet) (λ a b. AllAreIn a → AllAreIn b) (λ fleet are. are)
    (λ first second third p q are. q (p are)) in_then (λ a b same. same.fleet) old new lines
    answers h
