-- What every migration is that records came to: which of its fields it has in each phase, how far
-- its checkpoints and the copies of its disks are, and what is left of that once it has ended. The
-- table below has a row for each phase; what only grows with the phases is said by their order.
use Rattle.std.specs.Prelude.{◌≡◌, ℕ, ◌-◌, ◌<◌, ◌≤◌, ◌&&◌, not, nat_lt, nat_le, Bool, true, false, List, length, Contains, Option, Some, None, is_some, IsSome, IsSomeAnd, slice_get}
use Rattle.std.specs.List.{AllByRecursion}
use Rattle.std.specs.Option.{ForSome}
use Rattle.basics.specs.declared.limits.TheConstants.{MAX_DISKS}
use Rattle.checkpoints.specs.DataVolume.{last_checkpoint, is_unfinished, finished_count}
use Rattle.checkpoints.specs.DataVolume as volume
use Rattle.phase_table.specs.declared.phases.Phase.{Phase}
use Rattle.phase_table.specs.declared.phases.Phase.TheVariants.{Started, CreateInitialSnapshot, StoreInitialIds, CreateVolumes, AddFirstCheckpoint, CopyDisks, CopyingPaused, RemovePreviousSnapshot, CreateSnapshot, StoreIds, AddCheckpoint, StorePowerState, PowerOffSource, WaitForPowerOff, RemovePenultimateSnapshot, CreateFinalSnapshot, AddFinalCheckpoint, CopyFinal, RemoveFinalSnapshot, Completed, Cancelled, Failed}
use Rattle.phase_table.specs.Phases.{phase_number, is_end}
use Rattle.plan_model.specs.declared.plan.Plan.{Plan}
use Rattle.ctl_state.specs.declared.migration.Migration.{Migration}
use Rattle.ctl_state.specs.declared.migration.How.{How}
use Rattle.ctl_state.specs.declared.migration.How.TheVariants as Hows
use Rattle.ctl_state.specs.declared.copies.DiskCopy.{DiskCopy}
use Rattle.ctl_state.specs.declared.copies.CopyBase.{CopyBase}
use Rattle.ctl_state.specs.Migration.{reached, all_done}
use Rattle.ctl_state.specs.Value.{CtlValue, migration_in, plan_in}

-- ---- what each phase has

-- the current snapshot of a phase: there is none, or it is that of the last checkpoint, or a later
-- one, for which no checkpoint was added yet
pub data Current : Type 0 where
  no_snapshot : Current
  of_checkpoint : Current
  not_yet_added : Current
  -- that of the last checkpoint, if the machine wasn't found on once it was removed
  if_not_removed : Current

-- how far the copies of the disks are: none is begun, some are left, or all are done
pub data Copied : Type 0 where
  none_done : Copied
  some_left : Copied
  some_or_all : Copied
  all_are : Copied

pub record PhaseFacts : Type 0 where
  pub current : Current
  -- each disk has its identifier at the snapshot that was taken last
  pub named : Bool
  pub copied : Copied

abbrev pub row : Current → (named : Bool) → Copied → PhaseFacts
row current named copied = record { current = current; named = named; copied = copied }

abbrev pub facts_in : Phase → PhaseFacts
facts_in Started = row no_snapshot false none_done
facts_in CreateInitialSnapshot = row no_snapshot false none_done
facts_in StoreInitialIds = row not_yet_added false none_done
facts_in CreateVolumes = row not_yet_added true none_done
facts_in AddFirstCheckpoint = row not_yet_added true none_done
facts_in CopyDisks = row of_checkpoint true some_or_all
facts_in CopyingPaused = row of_checkpoint true all_are
facts_in RemovePreviousSnapshot = row of_checkpoint true all_are
facts_in CreateSnapshot = row no_snapshot true all_are
facts_in StoreIds = row not_yet_added false all_are
facts_in AddCheckpoint = row not_yet_added true all_are
facts_in StorePowerState = row of_checkpoint true all_are
facts_in PowerOffSource = row if_not_removed true all_are
facts_in WaitForPowerOff = row if_not_removed true all_are
facts_in RemovePenultimateSnapshot = row if_not_removed true all_are
facts_in CreateFinalSnapshot = row no_snapshot true all_are
facts_in AddFinalCheckpoint = row not_yet_added false all_are
facts_in CopyFinal = row of_checkpoint false some_left
facts_in RemoveFinalSnapshot = row of_checkpoint false all_are
facts_in Completed = row no_snapshot false all_are
facts_in Cancelled = row no_snapshot false some_or_all
facts_in Failed = row no_snapshot false some_or_all

abbrev pub HasCurrent : Current → (reached : ℕ) → (snap : Option ℕ) → Type 0
HasCurrent no_snapshot reached snap = snap ≡ None
HasCurrent of_checkpoint reached snap = snap ≡ Some reached
HasCurrent not_yet_added reached snap = IsSomeAnd snap (λ s. reached < s)
HasCurrent if_not_removed reached snap = ForSome snap (λ s. s ≡ reached)

abbrev pub HaveCopied : Copied → List DiskCopy → Type 0
HaveCopied none_done copies = AllByRecursion (λ copy. copy.done ≡ false) copies
HaveCopied some_left copies = all_done copies ≡ false
HaveCopied some_or_all copies = Unit {0}
HaveCopied all_are copies = all_done copies ≡ true

-- the phase is this one or stands behind it in the table
abbrev pub is_from : (first : Phase) → Phase → Bool
is_from first phase = nat_le (phase_number first) (phase_number phase)

-- ---- what its copies stand on

-- the mark of the last finished checkpoint
abbrev pub last_mark : List ℕ → Option ℕ
last_mark marks = slice_get marks (length marks - 1)

-- the next stage of a disk goes on from the last finished checkpoint, and where there is none it
-- copies all of the disk
abbrev pub GoesOnFrom : (mark : Option ℕ) → Option CopyBase → Type 0
GoesOnFrom None base = base ≡ None
GoesOnFrom (Some mark) base = IsSomeAnd base (λ b. (b.mark ≡ mark) × IsSome b.id)

-- a stage that is done stands on the current snapshot, with the disk's identifier there
abbrev pub IsDoneOn : (mark : ℕ) → DiskCopy → Type 0
IsDoneOn mark copy = copy.base ≡ Some (record { mark = mark; id = copy.id })

-- a copy that is done in a checkpoint that isn't finished stands on the current snapshot; any other
-- stands on the last finished checkpoint, from which nothing goes on once that is the final one
abbrev pub StandsBy : (on_current ended : Bool) → (mark : ℕ) → (last : Option ℕ) → DiskCopy
    → Type 0
StandsBy true ended mark last copy = IsDoneOn mark copy
StandsBy false true mark last copy = IsSomeAnd copy.base (λ b. last ≡ Some b.mark)
StandsBy false false mark last copy = GoesOnFrom last copy.base

-- its last checkpoint isn't finished
abbrev pub is_open : Migration → Bool
is_open m = is_unfinished (last_checkpoint m.dv.checkpoints)

-- the final one is
abbrev pub is_final_done : Migration → Bool
is_final_done m = m.dv.has_final && not (is_open m)

abbrev pub CopiesStand : Migration → Type 0
CopiesStand m = AllByRecursion
    (λ copy. StandsBy (is_open m && copy.done) (is_final_done m) m.mark (last_mark m.marks) copy)
    m.copies

-- ---- a migration that is live

-- it has just the fields that its phase has by now
pub record FitsPhase (m : Migration) : Type 0 where
  pub live : is_end m.phase ≡ false
  pub current : HasCurrent (facts_in m.phase).current (reached m) m.snap
  pub named : AllByRecursion (λ copy. is_some copy.id ≡ (facts_in m.phase).named) m.copies
  pub copied : HaveCopied (facts_in m.phase).copied m.copies
  pub volumes : m.volumes ≡ is_from AddFirstCheckpoint m.phase
  pub added : nat_lt 0 (length m.dv.checkpoints) ≡ is_from CopyDisks m.phase
  pub paused : is_from CopyingPaused m.phase ≡ true → IsSome m.last
  pub power : is_some m.power ≡ is_from PowerOffSource m.phase
  pub placed : is_some m.place ≡ is_from AddFinalCheckpoint m.phase
  pub final : m.dv.has_final ≡ is_from CopyFinal m.phase
  -- its last checkpoint isn't finished as long as disks are left
  pub unfinished : is_open m ≡ (is_from CopyDisks m.phase && not (all_done m.copies))
  pub stand : CopiesStand m

-- ---- one that has ended

-- the phase of an end
abbrev pub phase_of_end : How → Phase
phase_of_end Hows.Completed = Completed
phase_of_end Hows.Cancelled = Cancelled
phase_of_end Hows.FailedVolume = Failed
phase_of_end Hows.FailedSpent = Failed

-- completed: each of its disks was copied in the final checkpoint, up to the place that the final
-- snapshot told, and nobody had it cancelled
pub record IsComplete (m : Migration) : Type 0 where
  pub not_cancelled : m.cancel ≡ false
  pub final : is_final_done m ≡ true
  pub copied : all_done m.copies ≡ true
  pub stand : CopiesStand m
  pub placed : IsSome m.place

-- what each end says: cancelled where that was asked for, failed where it wasn't
abbrev pub EndSays : How → Migration → Type 0
EndSays Hows.Completed m = IsComplete m
EndSays Hows.Cancelled m = m.cancel ≡ true
EndSays Hows.FailedVolume m = m.cancel ≡ false
EndSays Hows.FailedSpent m = m.cancel ≡ false

pub record HasEnded (how : How) (m : Migration) : Type 0 where
  pub phase : m.phase ≡ phase_of_end how
  pub no_snapshot : m.snap ≡ None
  pub says : EndSays how m

-- ---- every migration

abbrev pub StandsNow : Option How → Migration → Type 0
StandsNow None m = FitsPhase m
StandsNow (Some how) m = HasEnded how m

pub record IsSound (m : Migration) : Type 0 where
  pub some_disks : 1 ≤ m.disks
  pub few_disks : m.disks ≤ MAX_DISKS
  -- one copy a disk
  pub paired : length m.copies ≡ m.disks
  pub volume : volume.IsSound m.dv
  -- one mark and one number of sectors for each finished checkpoint
  pub marked : length m.marks ≡ finished_count m.dv.checkpoints
  pub counted : length m.written ≡ finished_count m.dv.checkpoints
  pub now : StandsNow m.how m

-- ---- all of them

-- the migration stands at its number, and its plan names its machine
pub record IsMember (v : CtlValue) (mig : ℕ) (m : Migration) : Type 0 where
  pub numbered : m.number ≡ mig
  pub planned : IsSomeAnd (plan_in v m.plan) (λ plan. Contains plan.vms m.vm)
  pub sound : IsSound m

pub record IsSoundValue (v : CtlValue) : Type 0 where
  pub migrations : (mig : ℕ) (m : Migration) → migration_in v mig ≡ Some m → IsMember v mig m
  pub plans : (number : ℕ) (plan : Plan) → plan_in v number ≡ Some plan → plan.number ≡ number
  pub paired : length v.courses ≡ length v.plans
