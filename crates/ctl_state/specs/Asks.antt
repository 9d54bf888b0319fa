-- What the records of one migration ask of its machine and of its volumes: that it is the machine
-- with its disks, tracked; that the log has the snapshots, the place and the identifiers that they
-- name, and what each stage had to write; that the current snapshot is there; and that each volume
-- holds what its disk's stages left, or what the disk held where the migration is completed. The
-- log is the machine's, whose number and capacities stand beside it; what a store tells are its
-- volumes by name. What is asked for all migrations is this for each one.
use Rattle.std.specs.Prelude.{◌≡◌, ℕ, ◌+◌, ◌<◌, ◌≤◌, ◌⊎◌, Bool, true, false, ◌&&◌, ◌||◌, List, ◌∷◌, ◌++◌, length, drop, take, Option, Some, None, option_map, option_and_then, replicate, IsSomeAnd, Ok, slice_get}
use Rattle.std.specs.List.{list_any}
use Rattle.std.specs.Option.{ForSome}
use Rattle.sector_model.specs.VolumeContents.{VolumeContents, IsSized}
use Rattle.change_id.specs.declared.ChangeId.{ChangeId}
use Rattle.log_model.specs.declared.entry.Owner.TheVariants.{Migration as OfMigration}
use Rattle.log_model.specs.declared.entry.Act.TheVariants.{Snap}
use Rattle.log_model.specs.declared.entry.Entry.{Entry}
use Rattle.log_model.specs.declared.link.Snapped.{Snapped}
use Rattle.log_model.specs.Machine.{MachineState}
use Rattle.log_model.specs.Entry.{removes, resets, contents}
use Rattle.log_model.specs.Legal.{Legal, all_of, is_enabled, capacity_of}
use Rattle.log_model.specs.Link.{Owns, is_active}
use Rattle.log_model.specs.Marks.{mark, id_at, in_force, tracking}
use Rattle.log_model.specs.Frozen.{off_place}
use Rattle.log_model.specs.Touched.{touched}
use Rattle.warm_core.specs.declared.disk_world.Base.{Base}
use Rattle.warm_core.specs.Events.{base_of}
use Rattle.warm_core.specs.StageState.{sectors_below}
use Rattle.warm_core.specs.Staged.{Staged}
use Rattle.target_volume.specs.declared.volume_name.VolumeName.{VolumeName}
use Rattle.target_volume.specs.declared.volume_name.VolumeName.TheVariants.{Disk}
use Rattle.target_volume.specs.VolumeName.{find_volume}
use Rattle.target_volume.specs.VolumeStore.{StoredVolume}
use Rattle.phase_table.specs.declared.phases.Phase.TheVariants as Phases
use Rattle.record_codec.specs.declared.record.Record.{Record}
use Rattle.record_codec.specs.declared.record.Record.TheVariants.{PlanMade, MigrationStarted, Chosen, SnapTaken, IdsStored, VolumesMade, CheckpointAdded, StageBegun, StageDone, Paused, SnapRemoved, CutoverSet, PowerStored, PoweredOff, OffSeen, FinalSnapTaken, CancelAsked, Ended}
use Rattle.record_codec.specs.Record.{migration_of}
use Rattle.ctl_state.specs.declared.migration.How.TheVariants.{Completed}
use Rattle.ctl_state.specs.declared.migration.Migration.{Migration}
use Rattle.ctl_state.specs.declared.copies.DiskCopy.{DiskCopy}
use Rattle.ctl_state.specs.declared.copies.CopyBase.{CopyBase}
use Rattle.ctl_state.specs.Migration.{same_phase, is_live, current_snapshot, stored_place, copy_of}
use Rattle.ctl_state.specs.Value.{CtlValue, migration_in}
use Rattle.ctl_state.specs.Fold.{after}
use Rattle.ctl_state.specs.MayStand.{goes_on_in}
use Rattle.ctl_state.specs.Sound.{last_mark}

-- ---- what it asks of its machine

-- the machine is the one that it was started for, with as many disks, and its changes are tracked
pub record MachineAsks (at : MachineState) (m : Migration) : Type 0 where
  pub numbered : at.number ≡ m.vm
  pub sized : length at.capacities ≡ m.disks
  pub legal : Legal (all_of at.capacities) at.log
  pub tracked : is_active (tracking at.log) ≡ true

-- ---- what its records ask of the log

-- the snapshot was taken at that mark for the migration, and tracking was enabled before it
pub record IsItsSnapshot (mig snap mark : ℕ) (log : List Entry) : Type 0 where
  pub taken : IsSomeAnd (slice_get log mark) (λ e. e.act ≡ Snap snap (OfMigration mig))
  pub enabled : is_enabled (take mark log) ≡ true

-- the identifiers are those of the disks, in order, at the snapshot
pub record AreIdsAt (machine disks snap : ℕ) (ids : List ChangeId) (log : List Entry)
    : Type 0 where
  pub each_disk : length ids ≡ disks
  pub at_snapshot : (disk : ℕ) → disk < disks
      → slice_get ids disk ≡ id_at machine disk snap log

-- a reset of the disk stands in the log from this place on
abbrev pub WasResetFrom : (place disk : ℕ) → List Entry → Type 0
WasResetFrom place disk log = list_any (λ e. resets disk e.act) (drop place log) ≡ true

-- the sectors of the disk that may differ between two places
abbrev pub changed_sectors : (capacity disk from end : ℕ) → List Entry → ℕ
changed_sectors capacity disk from end log =
    sectors_below (touched capacity disk from end log) capacity

-- what a stage that is done has written, on the snapshot of this mark: the whole disk where no
-- checkpoint was finished before; else what changed since that one's mark, or, where the disk was
-- reset since, the whole disk and at most that besides
abbrev pub HasStageWritten : (capacity disk : ℕ) → (base : Option ℕ) → (mark written : ℕ)
    → List Entry → Type 0
HasStageWritten capacity disk None mark written log = written ≡ capacity
HasStageWritten capacity disk (Some from) mark written log =
    (written ≡ changed_sectors capacity disk from mark log)
    ⊎ ((WasResetFrom from disk log) × (capacity ≤ written)
    × (written ≤ capacity + changed_sectors capacity disk from mark log))

-- what a record asks, where the migration was so before it
abbrev pub RecordAsks : MachineState → Migration → Record → Type 0
RecordAsks at m (PlanMade plan name interval vms) = Unit {0}
RecordAsks at m (MigrationStarted mig plan vm disks) = Unit {0}
RecordAsks at m (Chosen mig way moment) = Unit {0}
RecordAsks at m (SnapTaken mig snap mark) = IsItsSnapshot mig snap mark at.log
RecordAsks at m (IdsStored mig ids) = AreIdsAt at.number m.disks (current_snapshot m) ids at.log
RecordAsks at m (VolumesMade mig) = Unit {0}
RecordAsks at m (CheckpointAdded mig previous current last) = Unit {0}
RecordAsks at m (StageBegun mig disk) = Unit {0}
RecordAsks at m (StageDone mig disk written) = HasStageWritten
    (capacity_of at.capacities disk) disk (last_mark m.marks) m.mark written at.log
RecordAsks at m (Paused mig moment) = Unit {0}
RecordAsks at m (SnapRemoved mig snap) = Unit {0}
RecordAsks at m (CutoverSet plan has moment) = Unit {0}
RecordAsks at m (PowerStored mig on) = Unit {0}
RecordAsks at m (PoweredOff mig) = Unit {0}
RecordAsks at m (OffSeen mig off) = Unit {0}
RecordAsks at m (FinalSnapTaken mig snap mark place) =
    IsItsSnapshot mig snap mark at.log × (off_place snap at.log ≡ Some place)
RecordAsks at m (CancelAsked mig) = Unit {0}
RecordAsks at m (Ended mig how place) = Unit {0}

-- what each record of the migration asks, wherever it stands among the records
abbrev pub RecordsAsk : (mig : ℕ) → MachineState → List Record → Type 0
RecordsAsk mig at records = (front rest : List Record) (r : Record) (v : CtlValue) (m : Migration)
    → records ≡ front ++ r ∷ rest → migration_of r ≡ Some mig
    → after front ≡ Ok v → migration_in v mig ≡ Some m → RecordAsks at m r

-- ---- what it asks of its current snapshot

-- a removal of the snapshot stands in the log
abbrev pub is_removed : (snap : ℕ) → List Entry → Bool
is_removed snap log = list_any (λ e. removes snap e.act) log

-- it is in a phase that removes its snapshot
abbrev pub is_removing : Migration → Bool
is_removing m = same_phase m.phase Phases.RemovePreviousSnapshot
    || (same_phase m.phase Phases.RemovePenultimateSnapshot
    || same_phase m.phase Phases.RemoveFinalSnapshot)

-- it is in a phase in which a volume may have failed
abbrev pub meets_volumes : Migration → Bool
meets_volumes m = same_phase m.phase Phases.CreateVolumes
    || (same_phase m.phase Phases.CopyDisks || same_phase m.phase Phases.CopyFinal)

-- a clean-up after a volume's fault removed the snapshot, and was stopped before it ended the
-- migration: nothing but a clean-up is left to do
abbrev pub was_given_up : (snap : ℕ) → List Entry → Migration → Bool
was_given_up snap log m = meets_volumes m && is_removed snap log

-- the snapshot may be gone
abbrev pub may_lack : (snap : ℕ) → List Entry → Migration → Bool
may_lack snap log m = is_removing m || (m.cancel || was_given_up snap log m)

-- the current snapshot of a live migration is live, and its own
abbrev pub SnapshotAsks : (mig : ℕ) → List Entry → Migration → Type 0
SnapshotAsks mig log m = is_live m ≡ true → ForSome m.snap
    (λ snap. may_lack snap log m ≡ false → Owns (OfMigration mig) snap log)

-- ---- what it asks of its volumes

-- what a volume holds, as the disk's last stage that is done left it: the mark is that of the
-- records, the identifier that of the log at this mark
abbrev pub base_at : (machine disk : ℕ) → List Entry → CopyBase → Option Base
base_at machine disk log base =
    base_of base.mark (in_force machine disk (take (base.mark + 1) log))

-- the same of a disk's copy, where a stage of it is done
abbrev pub base_of_copy : (machine disk : ℕ) → List Entry → DiskCopy → Option Base
base_of_copy machine disk log copy = option_and_then (base_at machine disk log) copy.base

-- the current snapshot, with the power-off place that the log has for it
abbrev pub snapped_in : List Entry → Migration → Option Snapped
snapped_in log m = option_map
    (λ snap. record { id = snap; mark = m.mark; off_place = off_place snap log }) m.snap

-- what is known of the volume of a disk between its stages
pub record VolumeAgrees (at : MachineState) (m : Migration) (disk : ℕ) (copy : DiskCopy)
    (v : VolumeContents) : Type 0 where
  pub sized : IsSized (capacity_of at.capacities disk) v
  pub staged : Staged (capacity_of at.capacities disk) disk at.log
      (base_of_copy at.number disk at.log copy) (snapped_in at.log m) v

-- the volume is of a disk that the migration has, and of its capacity
pub record IsOfDisk (at : MachineState) (m : Migration) (disk : ℕ) (stored : StoredVolume)
    : Type 0 where
  pub known : disk < m.disks
  pub sized : stored.capacity ≡ capacity_of at.capacities disk

-- what a completed migration's volume holds: what the disk's writes before the power-off place
-- left, and nothing of it is loose
abbrev pub final_contents : MachineState → Migration → (disk : ℕ) → VolumeContents
final_contents at m disk = record {
  sectors = contents (capacity_of at.capacities disk) disk (take (stored_place m) at.log);
  loose = replicate (capacity_of at.capacities disk) false;
}

-- while the migration is live, each of its disks has its volume, at home and as it has to be, from
-- the record on that says so; once it is completed, each holds its disk; and whatever stands under
-- its name is of a disk of its
pub record VolumesAsk (mig : ℕ) (at : MachineState) (m : Migration)
    (told : List (VolumeName × StoredVolume)) : Type 0 where
  pub each_disk : is_live m ≡ true → m.volumes ≡ true → (disk : ℕ) (copy : DiskCopy)
      → copy_of m disk ≡ Some copy → IsSomeAnd (find_volume (Disk mig disk) told)
      (λ stored. IsSomeAnd stored.contents (VolumeAgrees at m disk copy))
  pub complete : m.how ≡ Some Completed → (disk : ℕ) → disk < m.disks
      → IsSomeAnd (find_volume (Disk mig disk) told)
      (λ stored. stored.contents ≡ Some (final_contents at m disk))
  pub named : (disk : ℕ) → ForSome (find_volume (Disk mig disk) told) (IsOfDisk at m disk)

-- ---- all of it, of one migration; what its volumes hold is asked where the store tells that

pub record AsksOf (mig : ℕ) (at : MachineState) (records : List Record) (m : Migration)
    (told : Option (List (VolumeName × StoredVolume))) : Type 0 where
  pub of_machine : MachineAsks at m
  pub of_log : RecordsAsk mig at records
  pub of_snapshot : SnapshotAsks mig at.log m
  pub of_volumes : ForSome told (VolumesAsk mig at m)

-- ---- laws

-- the base that the log tells is the one that the records keep
abbrev pub BasesAreStored : Type 0
BasesAreStored = (machine disk snap : ℕ) (log : List Entry) (base : CopyBase) (id : ChangeId)
    → base.id ≡ Some id → mark snap log ≡ base.mark → id_at machine disk snap log ≡ Some id
    → base_at machine disk log base ≡ Some (record { mark = base.mark; id = id })

-- it is in a phase that stores identifiers, and goes on
abbrev pub is_naming : Migration → Bool
is_naming m = goes_on_in m Phases.StoreInitialIds || goes_on_in m Phases.StoreIds

-- where identifiers are to be stored, the snapshot is there
abbrev pub NamedSnapshotsLive : Type 0
NamedSnapshotsLive = (mig : ℕ) (at : MachineState) (records : List Record) (m : Migration)
    (told : Option (List (VolumeName × StoredVolume))) (snap : ℕ)
    → AsksOf mig at records m told → is_live m ≡ true → is_naming m ≡ true → m.snap ≡ Some snap
    → Owns (OfMigration mig) snap at.log
