-- When a fleet bears out a record: the machines that it names are there and tracked, and what it
-- says of a migration stands in the log of the migration's machine. And when the current snapshot
-- of a migration is there.
use Rattle.std.specs.Prelude.{◌≡◌, Bool, true, Option, option_and_then, IsSomeAnd}
use Rattle.std.specs.List.{list_all}
use Rattle.std.specs.Option.{ForSome}
use Rattle.fleet.specs.Fleet.{FleetState, machine_of}
use Rattle.record_codec.specs.declared.record.Record.{Record}
use Rattle.record_codec.specs.declared.record.Record.TheVariants.{PlanMade, MigrationStarted, Chosen, SnapTaken, IdsStored, VolumesMade, CheckpointAdded, StageBegun, StageDone, Paused, SnapRemoved, CutoverSet, PowerStored, PoweredOff, OffSeen, FinalSnapTaken, CancelAsked, Ended}
use Rattle.record_codec.specs.Record.{migration_of}
use Rattle.ctl_state.specs.declared.migration.Migration.{Migration}
use Rattle.ctl_state.specs.Asks.{RecordAsks, SnapshotAsks}
use Rattle.ctl_state.specs.Value.{CtlValue, migration_in}
use Rattle.restart.specs.Machines.{is_tracked, is_tracked_with}

-- the machines that the record names are there and tracked, and that of a migration that it begins
-- has as many disks
abbrev pub names_machines : FleetState → Record → Bool
names_machines fleet (PlanMade plan name interval vms) = list_all (is_tracked fleet) vms
names_machines fleet (MigrationStarted mig plan vm disks) = is_tracked_with fleet vm disks
names_machines fleet (Chosen mig way moment) = true
names_machines fleet (SnapTaken mig snap mark) = true
names_machines fleet (IdsStored mig ids) = true
names_machines fleet (VolumesMade mig) = true
names_machines fleet (CheckpointAdded mig previous current last) = true
names_machines fleet (StageBegun mig disk) = true
names_machines fleet (StageDone mig disk written) = true
names_machines fleet (Paused mig moment) = true
names_machines fleet (SnapRemoved mig snap) = true
names_machines fleet (CutoverSet plan has moment) = true
names_machines fleet (PowerStored mig on) = true
names_machines fleet (PoweredOff mig) = true
names_machines fleet (OffSeen mig off) = true
names_machines fleet (FinalSnapTaken mig snap mark place) = true
names_machines fleet (CancelAsked mig) = true
names_machines fleet (Ended mig how place) = true

-- the migration of the record, as it was before it
abbrev pub migration_before : CtlValue → Record → Option Migration
migration_before v r = option_and_then (migration_in v) (migration_of r)

-- what the record says stands in the log of the migration's machine
abbrev pub IsInLog : FleetState → Migration → Record → Type 0
IsInLog fleet m r = IsSomeAnd (machine_of m.vm fleet) (λ at. RecordAsks at m r)

-- the fleet bears out a record behind those that came to this value
pub record IsBorneOut (fleet : FleetState) (v : CtlValue) (r : Record) : Type 0 where
  pub named : names_machines fleet r ≡ true
  pub logged : ForSome (migration_before v r) (λ m. IsInLog fleet m r)

-- the current snapshot of the migration is there, if it is live, or may be gone
abbrev pub HasItsSnapshot : FleetState → Migration → Type 0
HasItsSnapshot fleet m =
    IsSomeAnd (machine_of m.vm fleet) (λ at. SnapshotAsks m.number at.log m)
