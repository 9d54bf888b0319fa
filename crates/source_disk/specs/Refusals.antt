-- Why a disk refuses a call, its reasons in order, but for want of memory. What changed is told of
-- live snapshots alone, though the tracking remembers the others.
use Rattle.std.specs.Prelude.{ℕ, List, nat_lt, not, Option, Some, None, if◌then◌else◌}
use Rattle.change_id.specs.declared.Since.{Since}
use Rattle.log_model.specs.declared.entry.Entry.{Entry}
use Rattle.log_model.specs.Refusals.{is_live}
use Rattle.snapshot_chain.specs.Chain as chain
use Rattle.snapshot_chain.specs.declared.chain.ChainRefused.{ChainRefused}
use Rattle.change_tracker.specs.History.{strange_refusal}
use Rattle.change_tracker.specs.declared.refusals.TrackRefused.{TrackRefused}
use Rattle.change_tracker.specs.declared.refusals.TrackRefused.TheVariants.{UnknownSnap, Range}
use Rattle.source_disk.specs.SourceDisk.{SourceDiskState, capacity_of}
use Rattle.source_disk.specs.FromLog.{changes_told}

-- ---- by what the disk holds: those of its chain

abbrev pub write_refusal : (first count : ℕ) → SourceDiskState → Option ChainRefused
write_refusal first count d = chain.write_refusal d.chain first count

abbrev pub snapshot_refusal : (id : ℕ) → SourceDiskState → Option ChainRefused
snapshot_refusal id d = chain.snapshot_refusal d.chain id

abbrev pub read_refusal : (id : Option ℕ) → (first count : ℕ) → SourceDiskState
    → Option ChainRefused
read_refusal id first count d = chain.read_refusal d.chain id first count

-- ---- by the log for which the disk stands

abbrev pub id_refusal : (snapshot : ℕ) → List Entry → Option TrackRefused
id_refusal snapshot log = if is_live snapshot log then None else Some UnknownSnap

abbrev pub query_refusal : (snapshot : ℕ) → Since → (start : ℕ) → SourceDiskState → List Entry
    → Option TrackRefused
query_refusal snapshot since start d log =
    if not (is_live snapshot log) then Some UnknownSnap
    else if not (nat_lt start (capacity_of d)) then Some Range
    else strange_refusal (changes_told snapshot since d log)
