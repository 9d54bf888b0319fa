-- What each act on a machine is to one of its disks: an event for the disk's chain of snapshots, a
-- step for its tracking. Each definition names each act, so that an act that comes later has to be
-- thought of here.
use Rattle.std.specs.Prelude.{ℕ, ◌==◌, List, length, Option, Some, None, if◌then◌else◌}
use Rattle.std.specs.List.{filter_map}
use Rattle.log_model.specs.declared.entry.Act.{Act}
use Rattle.log_model.specs.declared.entry.Act.TheVariants.{Write, Snap, Remove, Reset, Enable, Off, On}
use Rattle.log_model.specs.declared.entry.Entry.{Entry}
use Rattle.snapshot_chain.specs.History.{DiskEvent, Written, Frozen, Merged}
use Rattle.change_tracker.specs.History.{TrackStep, Marked, Frozen as Froze, Enabled, Reset as Restarted}

-- a write to the disk, and each snapshot of the machine
abbrev pub chain_event : (disk : ℕ) → Act → Option DiskEvent
chain_event disk (Write other first sectors) =
    if other == disk
    then Some (Written (record { first = first; sectors = sectors }))
    else None
chain_event disk (Snap id owner) = Some (Frozen id)
chain_event disk (Remove id) = Some (Merged id)
chain_event disk (Reset other) = None
chain_event disk Enable = None
chain_event disk Off = None
chain_event disk On = None

-- what was touched and which identifiers were given outlive a snapshot, so that its removal is no
-- step
abbrev pub track_step : (disk : ℕ) → Act → Option TrackStep
track_step disk (Write other first sectors) =
    if other == disk
    then Some (Marked (record { first = first; count = length sectors }))
    else None
track_step disk (Snap id owner) = Some (Froze id)
track_step disk (Remove id) = None
track_step disk (Reset other) = if other == disk then Some Restarted else None
track_step disk Enable = Some Enabled
track_step disk Off = None
track_step disk On = None

-- what the log is to each part of the disk
abbrev pub events_of : (disk : ℕ) → List Entry → List DiskEvent
events_of disk log = filter_map (λ e. chain_event disk e.act) log

abbrev pub steps_of : (disk : ℕ) → List Entry → List TrackStep
steps_of disk log = filter_map (λ e. track_step disk e.act) log
