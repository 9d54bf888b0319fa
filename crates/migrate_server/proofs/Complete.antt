-- A volume that was complete once is so at the end, and over a sound store no command is refused as
-- `volume`.
use Rattle.std.proofs.Common.{◌≡◌, ◌≢◌, ℕ, ◌/◌, ◌==◌, Bool, true, false, nat_le, length, List, [], ◌∷◌, Option, Some, None, Result, Ok, Err, option_map, if◌then◌else◌, inl, inr, refl, sym, ap, subst, ◌∙◌, arith}
use Rattle.std.specs.Prelude.{MatchOption, IfSome, IsSome, IsSomeAnd, IsTrue, All, is_some, option_and_then}
use Rattle.std.specs.Option.{option_map_or}
use Rattle.std.proofs.lemmas.Bool.{false≢true, true≢false}
use Rattle.std.proofs.lemmas.List.Elements.{All-cons}
use Rattle.basics.proofs.Options.{none-is_some}
use Rattle.target_volume.specs.VolumeName.{find_volume, with_volume}
use Rattle.target_volume.specs.VolumeStore.{StoreState, StoredVolume}
use Rattle.target_volume.specs.declared.volume_name.VolumeName.{VolumeName}
use Rattle.target_volume.specs.declared.volume_name.VolumeName.TheVariants.{Given}
use Rattle.target_volume.proofs.NameLemmas.{find-with_same, find-with_other}
use Rattle.cmd_json.specs.Line.{command_of}
use Rattle.cmd_json.specs.declared.command.Command.{Command}
use Rattle.cmd_json.specs.declared.command.Command.TheVariants.{Move, Quit, Host, Vm, Enable, Write, Snapshot, Remove, Query, Read, Power, Reset, Inventory, Plan, Start, Run, Cutover, Cancel, Status, Target, Digest, Restart}
use Rattle.migrate_server.specs.declared.line.Line.{Line}
use Rattle.migrate_server.specs.declared.line.Line.TheVariants.{Blank, Asks, Refuses}
use Rattle.cmd_json.specs.declared.refusal.CmdRefused.{CmdRefused}
use Rattle.cmd_json.specs.declared.refusal.CmdRefused.TheVariants.{Json, Command as CmdCommand, Field, Number, NoMemory}
use Rattle.reply_json.specs.declared.reply.Reply.{Reply}
use Rattle.migrate_server.specs.declared.line.TheConstants.{LINE_LIMIT}
use Rattle.change_id.specs.declared.IdRefused.{IdRefused}
use Rattle.change_id.specs.declared.Since.{Since}
use Rattle.log_model.specs.Refusals.{snap_refusal, write_refusal as refusal_of_write, query_refusal as refusal_of_query}
use Rattle.log_model.specs.declared.refusals.LinkRefused.{LinkRefused}
use Rattle.log_model.specs.declared.refusals.LinkRefused.TheVariants as link
use Rattle.log_model.specs.declared.refusals.WriteRefused.{WriteRefused}
use Rattle.log_model.specs.declared.refusals.WriteRefused.TheVariants as write
use Rattle.basics.specs.declared.limits.TheConstants.{SECTOR_BYTES}
use Rattle.source_vm.specs.Machine.{MachineState}
use Rattle.fleet.specs.Fleet.{FleetState}
use Rattle.fleet.specs.Refusals.{add_host_refusal, add_vm_refusal}
use Rattle.fleet.specs.declared.refusals.FleetRefused.{FleetRefused}
use Rattle.fleet.specs.declared.refusals.FleetRefused.TheVariants as refused
use Rattle.fleet_commands.specs.Machines.{machine_named}
use Rattle.fleet_commands.specs.Refusals.{fleet_told, link_told, write_told}
use Rattle.fleet_commands.specs.commands.Deed.{refusal_by, deed_refusal}
use Rattle.fleet_commands.specs.commands.Query.{since_refusal}
use Rattle.fleet_commands.specs.commands.Read.{refusal_at as refusal_at_read}
use Rattle.fleet_commands.specs.declared.deed.Deed.{Deed}
use Rattle.fleet_commands.specs.declared.deed.Deed.TheVariants as deed
use Rattle.answers.specs.declared.refusal.Refusal.{Refusal}
use Rattle.answers.specs.declared.refusal.Refusal.TheVariants as refusal
use Rattle.answers.specs.declared.refusal.Refusal.TheVariants.{Range, LogFull, NameTaken, UnknownVm, UnknownPlan, Started, NotStarted, Ended, Volume}
use Rattle.plan_model.specs.Plans.{plan_refusal as model_refusal}
use Rattle.plan_model.specs.declared.plan.PlanRefused.{PlanRefused}
use Rattle.plan_model.specs.declared.plan.PlanRefused.TheVariants as plan
use Rattle.ctl_state.specs.Value.{plan_named, course_in}
use Rattle.ctl_state.specs.declared.plans.PlanCourse.{PlanCourse}
use Rattle.plan_commands.specs.Machines.{known_of}
use Rattle.plan_commands.specs.commands.Cutover.{course_refusal, cutover_refusal_of}
use Rattle.plan_commands.specs.commands.Plan.{plan_told}
use Rattle.plan_commands.specs.commands.Start.{waiting_in, start_refusal_of}
use Rattle.answers.specs.Answer.{Answer}
use Rattle.migrate_server.specs.Line.{AsksFor, Means, refusal_told, refused_by, line_refusal}
use Rattle.migrate_server.specs.commands.Moves.{MoveRefusal, move_refusal, name_refusal, moved_volume}
use Rattle.migrate_server.specs.NewVolume.{IsFree, FailsInCopy, with_new_volume}
use Rattle.migrate_server.proofs.NewVolumes.{Volumes}
use Rattle.migrate_server.specs.Session.{State, value_of, power_deed, HasRefusal, LateRefusal, refusal_of, state_after, Fails, Answers, LineAnswers, Session, Stands, IsComplete, AllComplete}

-- a store tells still, and has still each volume that it had
record Keeps (old new : Option Volumes) : Type 0 where
  pub tells : IsSome old → IsSome new
  pub kept : IfSome old
      (λ before. IsSomeAnd new (λ after. (name : VolumeName) → IsSome (find_volume name before)
      → find_volume name after ≡ find_volume name before))

keeps_same : (volumes : Option Volumes) → Keeps volumes volumes
keeps_same None = record { tells = λ is. is; kept = tt }
keeps_same (Some volumes) = record { tells = λ is. is; kept = λ name is. refl }

-- a volume under a name that was free leaves each other one
keeps_new : (name : VolumeName) (volume : StoredVolume) (old : StoreState)
    (volumes : Option Volumes) → old.volumes ≡ volumes
    → IfSome volumes (λ vs. find_volume name vs ≡ None)
    → Keeps volumes (option_map (with_volume name volume) volumes)
keeps_new name volume old None is free = record { tells = λ t. t; kept = tt }
keeps_new name volume old (Some volumes) is free = record {
  tells = λ t. refl;
  kept = λ other there. find-with_other name other volume volumes
      (λ same. none-is_some (find_volume name volumes) free
      (subst (λ (n : VolumeName). IsSome (find_volume n volumes)) same there));
}

keeps_made : (name : VolumeName) (volume : StoredVolume) (old : StoreState) → IsFree name old
    → Keeps old.volumes (with_new_volume name volume old).volumes
keeps_made name volume old free = keeps_new name volume old old.volumes refl free

abbrev refusal_at : Option StoredVolume → Option Refusal
refusal_at found = if is_some found then Some NameTaken else None

free_by : (found : Option StoredVolume) → None ≡ refusal_at found → found ≡ None
free_by None h = refl
free_by (Some volume) h = let e = h in cc

-- a name that refuses no move is free
free_name : (name : List ℕ) (volumes : Option Volumes)
    → IfSome volumes (λ vs. None ≡ name_refusal name vs)
    → IfSome volumes (λ vs. find_volume (Given name) vs ≡ None)
free_name name None h = tt
free_name name (Some volumes) h = free_by (find_volume (Given name) volumes) h

fails_keep : (name : VolumeName) (capacity : ℕ) (old new : StoreState)
    → FailsInCopy name capacity old new → Keeps old.volumes new.volumes
fails_keep name capacity old new h =
    elim h.volumes [
      | inl same ↦ subst (λ (v : Option Volumes). Keeps old.volumes v) (sym same)
          (keeps_same old.volumes)
      | inr made ↦ subst (λ (v : Option Volumes). Keeps old.volumes v) (sym made.1.2)
          (keeps_made name made.1.0 old made.0)
    ]

same_keeps : (old new : State) → new ≡ old → Keeps old.store.volumes new.store.volumes
same_keeps old new same =
    subst (λ (s : State). Keeps old.store.volumes s.store.volumes) (sym same)
    (keeps_same old.store.volumes)

-- nothing refuses the command, so nothing does by what it asks for, and the store doesn't
not_refused : (refusal : Option Refusal) (P : Type 0)
    → MatchOption refusal P (λ why. None ≡ Some why) → P
not_refused None P h = h
not_refused (Some why) P h = let e = h in cc

after_keeps : (command : Command) (old : State) → HasRefusal command None old
    → Keeps old.store.volumes (state_after command old).store.volumes
after_keeps (Move name sectors writes) old h =
    keeps_made (Given name) (moved_volume sectors writes) old.store
    (free_name name old.store.volumes
    (not_refused (move_refusal sectors writes) (MoveRefusal name None old.store) h).1)
after_keeps Quit old h = keeps_same old.store.volumes
after_keeps (Host name limit) old h = keeps_same old.store.volumes
after_keeps (Vm name host disks) old h = keeps_same old.store.volumes
after_keeps (Enable vm) old h = keeps_same old.store.volumes
after_keeps (Write vm disk first count fill) old h = keeps_same old.store.volumes
after_keeps (Snapshot vm) old h = keeps_same old.store.volumes
after_keeps (Remove vm snapshot) old h = keeps_same old.store.volumes
after_keeps (Query vm snapshot disk since start) old h = keeps_same old.store.volumes
after_keeps (Read vm disk first count snapshot) old h = keeps_same old.store.volumes
after_keeps (Power vm on) old h = keeps_same old.store.volumes
after_keeps (Reset vm disk) old h = keeps_same old.store.volumes
after_keeps Inventory old h = keeps_same old.store.volumes
after_keeps (Plan name vms interval) old h = keeps_same old.store.volumes
after_keeps (Start plan) old h = keeps_same old.store.volumes
after_keeps (Run at workers guests disturb) old h = keeps_same old.store.volumes
after_keeps (Cutover plan at) old h = keeps_same old.store.volumes
after_keeps (Cancel vm) old h = keeps_same old.store.volumes
after_keeps Status old h = keeps_same old.store.volumes
after_keeps (Target volume first count) old h = keeps_same old.store.volumes
after_keeps (Digest volume) old h = keeps_same old.store.volumes
after_keeps Restart old h = keeps_same old.store.volumes

failed_keep : (command : Command) (old new : State) → Fails command old new
    → Keeps old.store.volumes new.store.volumes
failed_keep (Move name sectors writes) old new h =
    fails_keep (Given name) sectors old.store new.store h.2
failed_keep _ old new h = absurd h

answers_keep : (command : Command) (answer : Answer) (old new : State)
    → Answers command answer old new → Keeps old.store.volumes new.store.volumes
answers_keep command (Ok reply) old new h =
    subst (λ (s : State). Keeps old.store.volumes s.store.volumes) (sym h.2)
    (after_keeps command old h.0)
answers_keep command (Err why) old new h =
    elim h [
      | inl same ↦ same_keeps old new same.1
      | inr fails ↦ failed_keep command old new
          fails.2
    ]

line_keeps : (what : Line) (answer : Answer) (old new : State) → LineAnswers what answer old new
    → Keeps old.store.volumes new.store.volumes
line_keeps Blank answer old new h = absurd h
line_keeps (Asks command) answer old new h = answers_keep command answer old new h
line_keeps (Refuses why) answer old new h = same_keeps old new h.1

some_there : (o : Option StoredVolume) (volume : StoredVolume) → o ≡ Some volume → IsSome o
some_there None volume h = let e = h in cc
some_there (Some v) volume h = refl

stands_by : (name : VolumeName) (volume : StoredVolume) (old new : Option Volumes) → Keeps old new
    → IsSomeAnd old (λ volumes. find_volume name volumes ≡ Some volume)
    → IsSomeAnd new (λ volumes. find_volume name volumes ≡ Some volume)
stands_by name volume None new keeps h = absurd h
stands_by name volume (Some before) None keeps h = absurd keeps.kept
stands_by name volume (Some before) (Some after) keeps h =
    keeps.kept name (some_there (find_volume name before) volume h) ∙ h

stands_still : (command : Command) (old new : State) → Keeps old.store.volumes new.store.volumes
    → Stands command old → Stands command new
stands_still (Move name sectors writes) old new keeps h =
    stands_by (Given name) (moved_volume sectors writes) old.store.volumes new.store.volumes keeps h
stands_still _ old new keeps h = tt

complete_still : (line : List ℕ) (answer : Answer) (old new : State)
    → Keeps old.store.volumes new.store.volumes → IsComplete line answer old
    → IsComplete line answer new
complete_still line (Ok reply) old new keeps h = (h.0, h.1, stands_still h.0 old new keeps h.2)
complete_still line (Err why) old new keeps h = tt

made_stands : (name : VolumeName) (volume : StoredVolume) (volumes : Option Volumes)
    → IsSome volumes → IsSomeAnd (option_map (with_volume name volume) volumes)
    (λ vs. find_volume name vs ≡ Some volume)
made_stands name volume None tells = absurd (false≢true tells)
made_stands name volume (Some volumes) tells = find-with_same name volume volumes

after_stands : (command : Command) (old : State) → IsSome old.store.volumes
    → Stands command (state_after command old)
after_stands (Move name sectors writes) old tells =
    made_stands (Given name) (moved_volume sectors writes) old.store.volumes tells
after_stands _ old tells = tt

answers_complete : (line : List ℕ) (command : Command) (answer : Answer) (old new : State)
    → AsksFor line command → IsSome old.store.volumes → Answers command answer old new
    → IsComplete line answer new
answers_complete line command (Ok reply) old new asks tells h =
    (command, asks, subst (Stands command) (sym h.2) (after_stands command old tells))
answers_complete line command (Err why) old new asks tells h = tt

line_complete : (line : List ℕ) (what : Line) (answer : Answer) (old new : State)
    → IsSome old.store.volumes → Means line what → LineAnswers what answer old new
    → IsComplete line answer new
line_complete line Blank answer old new tells means h = absurd h
line_complete line (Asks command) answer old new tells means h =
    answers_complete line command answer old new means tells h
line_complete line (Refuses why) answer old new tells means h =
    subst (λ (a : Answer). IsComplete line a new) (sym h.0) tt

session_still : (old new : State) (lines : List (List ℕ)) (replies : List Answer)
    → Session old lines replies new → (line : List ℕ) (reply : Answer) → IsComplete line reply old
    → IsComplete line reply new
session_still old new [] [] h line reply done =
    subst (λ (s : State). IsComplete line reply s) (sym h) done
session_still old new [] (r ∷ replies) h line reply done = absurd h
session_still old new (l ∷ lines) [] h line reply done = absurd h
session_still old new (l ∷ lines) (r ∷ replies) h line reply done =
    session_still h.0 new lines replies h.2 line reply
    (complete_still line reply old h.0 (line_keeps (h.1).0 r old h.0 (h.1).2) done)

pub session_complete : (old new : State) (lines : List (List ℕ)) (replies : List Answer)
    → Session old lines replies new → IsSome old.store.volumes → AllComplete lines replies new
session_complete old new [] [] h tells = tt
session_complete old new [] (r ∷ replies) h tells = absurd h
session_complete old new (l ∷ lines) [] h tells = absurd h
session_complete old new (l ∷ lines) (r ∷ replies) h tells =
    let first = line_complete l (h.1).0 r old h.0 tells (h.1).1 (h.1).2 in (
      session_still h.0 new lines replies h.2 l r first,
      session_complete h.0 new lines replies h.2
          ((line_keeps (h.1).0 r old h.0 (h.1).2).tells tells),
    )

-- what stands of commands goes by the store alone
pub all_still : (lines : List (List ℕ)) (replies : List Answer) (old new : State)
    → new.store ≡ old.store → AllComplete lines replies old → AllComplete lines replies new
all_still [] [] old new same h = tt
all_still [] (r ∷ replies) old new same h = tt
all_still (l ∷ lines) [] old new same h = tt
all_still (l ∷ lines) (r ∷ replies) old new same h =
    let keeps = subst (λ (t : StoreState). Keeps old.store.volumes t.volumes) (sym same)
    (keeps_same old.store.volumes) in
    (complete_still l r old new keeps h.0, all_still lines replies old new same h.1)

-- ---- a sound store

err_is : (why : Refusal) → ◌≡◌ {A = Answer} (Err why) (Err Volume) → why ≡ Volume
err_is why is = cc

record Sound (answer : Answer) (old new : State) : Type 0 where
  pub still : new.store.sound ≡ true
  pub steady : new.store.faults ≡ old.store.faults
  pub no_volume : answer ≢ Err Volume

same_sound : (answer : Answer) (old new : State) → IsTrue old.store.sound → new ≡ old
    → answer ≢ Err Volume → Sound answer old new
same_sound answer old new sound same other =
    record {
      still = ap (λ (s : State). s.store.sound) same
          ∙ sound;
      steady = ap (λ (s : State). s.store.faults) same;
      no_volume = other;
    }

-- what a fleet, a machine, a write or a move refuses isn't told as `volume`
fleet_why : (why : FleetRefused) → fleet_told why ≢ Some Volume
fleet_why refused.NameTaken = λ same. cc
fleet_why _ = λ same. cc

link_why : (why : LinkRefused) → link_told why ≢ Some Volume
link_why link.UnknownSnap = λ same. cc
link_why _ = λ same. cc

write_why : (why : WriteRefused) → write_told why ≢ Some Volume
write_why write.Off = λ same. cc
write_why _ = λ same. cc

told_by : {X : Type 0} (o : Option X) (told : X → Option Refusal)
    → ((x : X) → told x ≢ Some Volume) → option_and_then told o ≢ Some Volume
told_by None told never = λ same. cc
told_by (Some x) told never = never x

machine_why : (found : Option MachineState) (by : MachineState → Option Refusal)
    → ((m : MachineState) → by m ≢ Some Volume)
    → option_map_or by found (Some UnknownVm) ≢ Some Volume
machine_why None by never = λ same. cc
machine_why (Some m) by never = never m

move_why : (a b : Bool) → (if a then if b then None else Some LogFull else Some Range) ≢ Some Volume
move_why true true = λ same. cc
move_why true false = λ same. cc
move_why false b = λ same. cc

deed_why : (vm : List ℕ) (asked : Deed) (fleet : FleetState)
    → deed_refusal vm asked fleet ≢ Some Volume
deed_why vm asked fleet = machine_why (machine_named vm fleet)
    (λ m. option_and_then link_told (refusal_by asked m.capacities m.log))
    (λ m. told_by (refusal_by asked m.capacities m.log) link_told link_why)

-- nor what a plan is refused for
plan_why : (why : PlanRefused) → plan_told why ≢ Some Volume
plan_why plan.Empty = λ same. cc
plan_why _ = λ same. cc

named_why : {X : Type 0} (found : Option X) (by : X → Option Refusal)
    → ((x : X) → by x ≢ Some Volume) → option_map_or by found (Some UnknownPlan) ≢ Some Volume
named_why None by never = λ same. cc
named_why (Some x) by never = never x

started_why : (all : Bool) → (if all then Some Started else None) ≢ Some Volume
started_why true = λ same. cc
started_why false = λ same. cc

ended_why : (a b : Bool)
    → (if a then Some NotStarted else if b then Some Ended else None) ≢ Some Volume
ended_why true b = λ same. cc
ended_why false true = λ same. cc
ended_why false false = λ same. cc

course_why : (course : Option PlanCourse)
    → option_map_or course_refusal course (Some UnknownPlan) ≢ Some Volume
course_why course =
    named_why course course_refusal (λ c. ended_why (c.started == 0) (c.live == 0))

-- what a command asks for isn't refused as `volume`
asked_why : (command : Command) (s : State) → refusal_of command s ≢ Some Volume
asked_why (Move name sectors writes) s = move_why _ _
asked_why (Host name limit) s = told_by (add_host_refusal name s.fleet) fleet_told fleet_why
asked_why (Vm name host disks) s =
    told_by (add_vm_refusal name host disks s.fleet) fleet_told fleet_why
asked_why (Enable vm) s = deed_why vm deed.Enable s.fleet
asked_why (Write vm disk first count fill) s = machine_why (machine_named vm s.fleet)
    (λ m. option_and_then write_told (refusal_of_write m.capacities disk first count m.log))
    (λ m. told_by (refusal_of_write m.capacities disk first count m.log) write_told write_why)
asked_why (Snapshot vm) s = machine_why (machine_named vm s.fleet)
    (λ m. option_and_then link_told (snap_refusal false m.log))
    (λ m. told_by (snap_refusal false m.log) link_told link_why)
asked_why (Remove vm snapshot) s = deed_why vm (deed.Remove snapshot) s.fleet
asked_why (Query vm snapshot disk since start) s =
    machine_why (machine_named vm s.fleet) (λ m. None) (λ m. λ same. cc)
asked_why (Read vm disk first count snapshot) s = machine_why (machine_named vm s.fleet)
    (λ m. option_and_then link_told (refusal_at_read snapshot disk first count m))
    (λ m. told_by (refusal_at_read snapshot disk first count m) link_told link_why)
asked_why (Power vm on) s = deed_why vm (power_deed on) s.fleet
asked_why (Reset vm disk) s = deed_why vm (deed.Reset disk) s.fleet
asked_why (Plan name vms interval) s =
    told_by (model_refusal name vms (known_of s.fleet (value_of s.records))
    (value_of s.records).plans)
    plan_told plan_why
asked_why (Start plan) s = named_why (plan_named (value_of s.records).plans plan)
    (λ number. start_refusal_of number (value_of s.records))
    (λ number. started_why (length (waiting_in number (value_of s.records)) == 0))
asked_why (Cutover plan at) s = named_why (plan_named (value_of s.records).plans plan)
    (λ number. cutover_refusal_of number (value_of s.records))
    (λ number. course_why (course_in (value_of s.records) number))
asked_why _ s = λ same. cc

since_why : (snapshot disk : ℕ) (asked : Result Since IdRefused) (start : ℕ) (m : MachineState)
    → since_refusal snapshot disk asked start m ≢ Some Volume
since_why snapshot disk (Ok since) start m =
    told_by (refusal_of_query m.number m.capacities snapshot disk since start m.log) link_told
    link_why
since_why snapshot disk (Err why) start m = λ same. cc

-- nor is a name that is taken, or what the text of an identifier asks for
late_why : (command : Command) (s : State) → LateRefusal command (Some Volume) s → ⊥
late_why (Move name sectors writes) s h = elim h.0 [ inl none ↦ cc | inr taken ↦ cc ]
late_why (Query vm snapshot disk since start) s h =
    machine_why (machine_named vm s.fleet) (since_refusal snapshot disk h.0 (start / SECTOR_BYTES))
    (since_why snapshot disk h.0 (start / SECTOR_BYTES)) (sym h.2)
late_why _ s h = let e = h in cc

not_volume_at : (refusal : Option Refusal) (P : Type 0) → refusal ≢ Some Volume → (P → ⊥)
    → MatchOption refusal P (λ why. Some Volume ≡ Some why) → ⊥
not_volume_at None P other none h = none h
not_volume_at (Some why) P other none h = other (sym h)

not_volume : (command : Command) (why : Refusal) (s : State) → HasRefusal command (Some why) s
    → why ≢ Volume
not_volume command why s h = λ same.
    not_volume_at (refusal_of command s) (LateRefusal command (Some Volume) s) (asked_why command s)
    (late_why command s)
    (subst (λ (w : Refusal). HasRefusal command (Some w) s) same h)

after_sound : (command : Command) (old : State)
    → ((state_after command old).store.sound ≡ old.store.sound)
    × ((state_after command old).store.faults ≡ old.store.faults)
after_sound (Move name sectors writes) old = (refl, refl)
after_sound _ old = (refl, refl)

fails_unsound : (command : Command) (old new : State) → Fails command old new
    → old.store.sound ≡ false
fails_unsound (Move name sectors writes) old new h = (h.2).unsound
fails_unsound _ old new h = absurd h

answers_sound : (command : Command) (answer : Answer) (old new : State) → IsTrue old.store.sound
    → Answers command answer old new → Sound answer old new
answers_sound command (Ok reply) old new sound h =
    let same = after_sound command old in
    record {
      still = ap (λ (s : State). s.store.sound) h.2 ∙ same.0
          ∙ sound;
      steady = ap (λ (s : State). s.store.faults) h.2 ∙ same.1;
      no_volume = λ same. cc;
    }
answers_sound command (Err why) old new sound h =
    elim h [
      | inl same ↦ same_sound (Err why) old new sound same.1
          (λ is. not_volume command why old same.0 (err_is why is))
      | inr fails ↦ absurd (true≢false (sym sound ∙ fails_unsound command old new fails.2))
    ]

-- a line isn't refused as `volume` by what it is
told_why : (e : CmdRefused) → refusal_told e ≢ Some Volume
told_why Json = λ same. cc
told_why CmdCommand = λ same. cc
told_why (Field name) = λ same. cc
told_why (Number name) = λ same. cc
told_why NoMemory = λ same. cc

read_why : (read : Result Command CmdRefused) → refused_by read ≢ Some Volume
read_why (Ok command) = λ same. cc
read_why (Err e) = told_why e

fitting_why : (fits : Bool) (read : Result Command CmdRefused)
    → (if fits then refused_by read else Some refusal.Long) ≢ Some Volume
fitting_why true read = read_why read
fitting_why false read = λ same. cc

line_why : (line : List ℕ) → line_refusal line ≢ Some Volume
line_why line = fitting_why (nat_le (length line) LINE_LIMIT) (command_of line)

not_refused_so : (line : List ℕ) (why : Refusal) (answer : Answer) → Means line (Refuses why)
    → answer ≡ Err why → answer ≢ Err Volume
not_refused_so line why answer means is =
    λ same. line_why line (means.1 ∙ ap Some (err_is why (sym is ∙ same)))

line_sound : (line : List ℕ) (what : Line) (answer : Answer) (old new : State)
    → IsTrue old.store.sound → Means line what → LineAnswers what answer old new
    → Sound answer old new
line_sound line Blank answer old new sound means h = absurd h
line_sound line (Asks command) answer old new sound means h =
    answers_sound command answer old new sound h
line_sound line (Refuses why) answer old new sound means h =
    same_sound answer old new sound h.1 (not_refused_so line why answer means h.0)

pub no_volume : (old new : State) (lines : List (List ℕ)) (replies : List Answer)
    → Session old lines replies new → IsTrue old.store.sound
    → All (λ reply. reply ≢ Err Volume) replies
no_volume old new [] [] h sound = λ k d within. absurd (omega arith)
no_volume old new [] (r ∷ replies) h sound = absurd h
no_volume old new (l ∷ lines) [] h sound = absurd h
no_volume old new (l ∷ lines) (r ∷ replies) h sound =
    let first = line_sound l (h.1).0 r old h.0 sound (h.1).1 (h.1).2 in
    All-cons (λ reply. reply ≢ Err Volume) r replies first.no_volume
    (no_volume h.0 new lines replies h.2 first.still)

pub session_sound : (old new : State) (lines : List (List ℕ)) (replies : List Answer)
    → Session old lines replies new → IsTrue old.store.sound
    → (new.store.sound ≡ true) × (new.store.faults ≡ old.store.faults)
session_sound old new [] [] h sound =
    (ap (λ (s : State). s.store.sound) h ∙ sound, ap (λ (s : State). s.store.faults) h)
session_sound old new [] (r ∷ replies) h sound = absurd h
session_sound old new (l ∷ lines) [] h sound = absurd h
session_sound old new (l ∷ lines) (r ∷ replies) h sound =
    let first = line_sound l (h.1).0 r old h.0 sound (h.1).1 (h.1).2 in
    let rest = session_sound h.0 new lines replies h.2 first.still in
    (rest.0, rest.1 ∙ first.steady)
