-- What a phase does on its machine and what it says of that, phase by phase. A phase makes at most
-- one call that adds to the machine's log, and the log that this call sees decides what it adds and
-- what is said. Other callers' entries may stand before that log's end, so a phase relates what
-- its link stood for to what it stands for then by some such log. Where nobody shares the machine
-- there is just one.
use Rattle.std.specs.Prelude.{◌≡◌, ℕ, ◌+◌, ◌==◌, ◌&&◌, not, Bool, true, false, List, [], ◌∷◌, length, Option, Some, None, option_map, unwrap_or, if◌then◌else◌}
use Rattle.std.specs.List.{filter_map, range_with_len}
use Rattle.change_id.specs.declared.ChangeId.{ChangeId}
use Rattle.log_model.specs.declared.entry.Owner.TheVariants.{Migration}
use Rattle.log_model.specs.declared.entry.Act.{Act}
use Rattle.log_model.specs.declared.entry.Act.TheVariants.{Snap, Remove, Off}
use Rattle.log_model.specs.declared.entry.Entry.{Entry}
use Rattle.log_model.specs.Legal.{machine_on, taken}
use Rattle.log_model.specs.Marks.{id_at}
use Rattle.log_model.specs.Frozen.{last_off}
use Rattle.log_model.specs.Refusals.{is_spent, is_live}
use Rattle.log_model.specs.Link.{LinkState, IsCall}
use Rattle.phase_table.specs.declared.phases.Phase.{Phase}
use Rattle.phase_table.specs.declared.phases.Phase.TheVariants.{Started, CreateInitialSnapshot, StoreInitialIds, CreateVolumes, AddFirstCheckpoint, CopyDisks, CopyingPaused, RemovePreviousSnapshot, CreateSnapshot, StoreIds, AddCheckpoint, StorePowerState, PowerOffSource, WaitForPowerOff, RemovePenultimateSnapshot, CreateFinalSnapshot, AddFinalCheckpoint, CopyFinal, RemoveFinalSnapshot, Completed, Cancelled, Failed}
use Rattle.plan_model.specs.Way.{way_number}
use Rattle.plan_model.specs.declared.way.Way.TheVariants as Ways
use Rattle.record_codec.specs.declared.record.Record.{Record}
use Rattle.record_codec.specs.declared.record.Record.TheVariants.{Chosen, SnapTaken, IdsStored, CheckpointAdded, Paused, SnapRemoved, PowerStored, PoweredOff, OffSeen, FinalSnapTaken, Ended}
use Rattle.ctl_state.specs.declared.migration.How.TheVariants as Hows
use Rattle.ctl_state.specs.declared.task.Did.{Did}
use Rattle.ctl_state.specs.declared.task.Did.TheVariants as Dids
use Rattle.ctl_state.specs.declared.task.PhaseTask.{PhaseTask}
use Rattle.ctl_state.specs.Steps.{how_number}

-- ---- what a call finds and leaves

-- the act that it adds, if it adds one, and what is said
pub record Effect : Type 0 where
  pub act : Option Act
  pub did : Did

abbrev pub adds : Act → Record → Effect
adds act r = record { act = Some act; did = Dids.Record r }

abbrev pub only_says : Record → Effect
only_says r = record { act = None; did = Dids.Record r }

-- what would be added has no room
abbrev pub meets_spent : Effect
meets_spent = record { act = None; did = Dids.Spent }

abbrev pub if_room : List Entry → Effect → Effect
if_room log effect = if is_spent log then meets_spent else effect

-- ---- the phases that call

-- a snapshot of the migration, whether the machine is on or off
abbrev pub snapshot_effect : PhaseTask → List Entry → Effect
snapshot_effect task log = if_room log
    (adds (Snap (taken log + 1) (Migration task.mig))
    (SnapTaken task.mig (taken log + 1) (length log)))

-- the final one only where the machine is off, which is looked at first
abbrev pub final_snapshot_effect : PhaseTask → List Entry → Effect
final_snapshot_effect task log = if machine_on log then only_says (OffSeen task.mig false)
    else if_room log (adds (Snap (taken log + 1) (Migration task.mig))
    (FinalSnapTaken task.mig (taken log + 1) (length log) (unwrap_or (last_off log) 0)))

-- the identifier of each disk at the snapshot, of those that have one there
abbrev pub ids_at : (machine disks snapshot : ℕ) → List Entry → List ChangeId
ids_at machine disks snapshot log =
    filter_map (λ disk. id_at machine disk snapshot log) (range_with_len 0 disks)

abbrev pub ids_effect : (machine : ℕ) → PhaseTask → List Entry → Effect
ids_effect machine task log =
    only_says (IdsStored task.mig (ids_at machine task.disks task.snap log))

-- a snapshot that is gone counts as removed, also where the log is full
abbrev pub removal_effect : PhaseTask → List Entry → Effect
removal_effect task log = if is_live task.snap log
    then if_room log (adds (Remove task.snap) (SnapRemoved task.mig task.snap))
    else only_says (SnapRemoved task.mig task.snap)

-- the migration is complete, whether or not there was room to remove its final snapshot
abbrev pub final_removal_effect : PhaseTask → List Entry → Effect
final_removal_effect task log =
    if is_live task.snap log && not (is_spent log)
    then adds (Remove task.snap) (Ended task.mig (how_number Hows.Completed) task.place)
    else only_says (Ended task.mig (how_number Hows.Completed) task.place)

abbrev pub power_effect : PhaseTask → List Entry → Effect
power_effect task log = only_says (PowerStored task.mig (machine_on log))

-- a machine that is off counts as powered off, also where the log is full
abbrev pub power_off_effect : PhaseTask → List Entry → Effect
power_off_effect task log = if machine_on log then if_room log (adds Off (PoweredOff task.mig))
    else only_says (PoweredOff task.mig)

abbrev pub wait_effect : PhaseTask → List Entry → Effect
wait_effect task log = only_says (OffSeen task.mig (not (machine_on log)))

-- ---- phase by phase

-- a phase has no job of its own, or it says something without a look at the machine, or it makes a
-- call
pub data PhaseWork : Type 0 where
  no_job : PhaseWork
  says : Did → PhaseWork
  by_call : (List Entry → Effect) → PhaseWork

abbrev pub says_record : Record → PhaseWork
says_record r = says (Dids.Record r)

-- where there is no snapshot to remove, nothing is called
abbrev pub removal_work : PhaseTask → PhaseWork
removal_work task = if task.snap == 0 then says_record (SnapRemoved task.mig 0)
    else by_call (removal_effect task)

abbrev pub checkpoint_work : PhaseTask → PhaseWork
checkpoint_work task =
    says_record (CheckpointAdded task.mig task.previous task.snap task.last)

abbrev pub work_in : Phase → (machine : ℕ) → PhaseTask → PhaseWork
work_in Started machine task =
    says_record (Chosen task.mig (way_number Ways.Nothing) task.now.0)
work_in CreateInitialSnapshot machine task = by_call (snapshot_effect task)
work_in StoreInitialIds machine task = by_call (ids_effect machine task)
work_in CreateVolumes machine task = says Dids.MakeVolumes
work_in AddFirstCheckpoint machine task = checkpoint_work task
work_in CopyDisks machine task = says_record (Paused task.mig task.now.0)
work_in CopyingPaused machine task =
    says_record (Chosen task.mig (way_number task.way) task.now.0)
work_in RemovePreviousSnapshot machine task = removal_work task
work_in CreateSnapshot machine task = by_call (snapshot_effect task)
work_in StoreIds machine task = by_call (ids_effect machine task)
work_in AddCheckpoint machine task = checkpoint_work task
work_in StorePowerState machine task = by_call (power_effect task)
work_in PowerOffSource machine task = by_call (power_off_effect task)
work_in WaitForPowerOff machine task = by_call (wait_effect task)
work_in RemovePenultimateSnapshot machine task = removal_work task
work_in CreateFinalSnapshot machine task = by_call (final_snapshot_effect task)
work_in AddFinalCheckpoint machine task = checkpoint_work task
work_in CopyFinal machine task = no_job
work_in RemoveFinalSnapshot machine task = by_call (final_removal_effect task)
work_in Completed machine task = no_job
work_in Cancelled machine task = no_job
work_in Failed machine task = no_job

abbrev pub phase_work : (machine : ℕ) → PhaseTask → PhaseWork
phase_work machine task = work_in task.phase machine task

-- what the work adds and says at a log; none where the phase has no job
abbrev pub effect_at : PhaseWork → List Entry → Option Effect
effect_at no_job log = None
effect_at (says did) log = Some (record { act = None; did = did })
effect_at (by_call effect) log = Some (effect log)

-- what the phase of the task adds to the log of that machine, and what it says, where its call sees
-- this log
abbrev pub phase_at : (machine : ℕ) → PhaseTask → List Entry → Option Effect
phase_at machine task log = effect_at (phase_work machine task) log

-- ---- on a link

-- what a caller adds by one act, or by none
abbrev pub entries_by : (who : ℕ) → Option Act → List Entry
entries_by who None = []
entries_by who (Some act) = record { who = who; act = act } ∷ []

-- one call with this effect at the log that it sees
pub record HasCalled (effect : List Entry → Effect) (old new : LinkState) (did : Did)
    : Type 0 where
  pub log : List Entry
  pub is_call : IsCall log (entries_by old.caller (effect log).act) old new
  pub says : did ≡ (effect log).did

-- a phase without a job leaves the machine alone, and so does one that makes no call
abbrev pub HasWorked : PhaseWork → (old new : LinkState) → Did → Type 0
HasWorked no_job old new did = new ≡ old
HasWorked (says what) old new did = (new ≡ old) × (did ≡ what)
HasWorked (by_call effect) old new did = HasCalled effect old new did
