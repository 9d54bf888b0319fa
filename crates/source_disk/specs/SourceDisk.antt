-- What a source disk holds, what each call makes of it, and for which next call room was made.
use Rattle.std.specs.Prelude.{◌≡◌, ℕ, ◌≤◌, List, length, Bool, true, false, ◌&&◌, Option, Some, None, is_some, option_map}
use Rattle.sector_model.specs.declared.sector.Sector.{Sector}
use Rattle.snapshot_chain.specs.Chain.{ChainState}
use Rattle.snapshot_chain.specs.Chain as chain
use Rattle.change_id.specs.declared.ChangeId.{ChangeId}
use Rattle.change_tracker.specs.Tracker.{TrackerState}
use Rattle.change_tracker.specs.Tracker as tracker

-- its chain of snapshots, and its change tracking, which knows the machine and the disk's number
pub record SourceDiskState : Type 0 where
  pub chain : ChainState
  pub tracker : TrackerState

abbrev pub machine_of : SourceDiskState → ℕ
machine_of d = d.tracker.machine

abbrev pub number_of : SourceDiskState → ℕ
number_of d = d.tracker.disk

abbrev pub capacity_of : SourceDiskState → ℕ
capacity_of d = d.chain.capacity

-- how often its tracking was reset
abbrev pub epoch_of : SourceDiskState → ℕ
epoch_of d = d.tracker.epoch

-- the snapshot is live
abbrev pub has_snapshot : (id : ℕ) → SourceDiskState → Bool
has_snapshot id d = is_some (chain.snapshot_of id d.chain)

-- the identifier that the next snapshot gets
abbrev pub next_id : SourceDiskState → Option ChangeId
next_id d = tracker.next_id d.tracker

-- the id is above those of all snapshots that were frozen
abbrev pub IsFree : (id : ℕ) → SourceDiskState → Type 0
IsFree id d = d.chain.free_from ≤ id

-- the contents of a live snapshot, or without one those now
abbrev pub contents_of : Option ℕ → SourceDiskState → Option (List Sector)
contents_of id d = chain.contents_of id d.chain

-- the blocks that were written before a live snapshot, ascending
abbrev pub blocks_of : (id : ℕ) → SourceDiskState → Option (List ℕ)
blocks_of id d = option_map (λ snapshot. snapshot.blocks) (chain.snapshot_of id d.chain)

-- both parts are of one disk, and an id is free in one where it is free in the other
pub record IsInStep (d : SourceDiskState) : Type 0 where
  pub capacity : d.tracker.capacity ≡ d.chain.capacity
  pub free_from : d.tracker.free_from ≡ d.chain.free_from

-- a disk that was never written
abbrev pub fresh : (machine disk capacity : ℕ) → SourceDiskState
fresh machine disk capacity = record {
  chain = chain.fresh capacity;
  tracker = tracker.fresh machine disk capacity;
}

abbrev pub after_writing : (first : ℕ) → List Sector → SourceDiskState → SourceDiskState
after_writing first sectors d = record {
  chain = chain.after_writing (record { first = first; sectors = sectors }) d.chain;
  tracker = tracker.after_marking (record { first = first; count = length sectors }) d.tracker;
}

abbrev pub after_freezing : (id : ℕ) → SourceDiskState → SourceDiskState
after_freezing id d = record {
  chain = chain.after_freezing id d.chain;
  tracker = tracker.after_freezing id d.tracker;
}

-- a merge takes no identifier back, and leaves what was touched
abbrev pub after_merging : (id : ℕ) → SourceDiskState → SourceDiskState
after_merging id d = record d { chain = chain.after_merging id d.chain }

abbrev pub after_enabling : SourceDiskState → SourceDiskState
after_enabling d = record d { tracker = tracker.after_enabling d.tracker }

abbrev pub after_reset : SourceDiskState → SourceDiskState
after_reset d = record d { tracker = tracker.after_reset d.tracker }

-- ---- room for later calls

-- the next freeze takes no memory
abbrev pub has_freeze_room : SourceDiskState → Bool
has_freeze_room d = d.chain.freeze_room && d.tracker.freeze_room

-- the merge of this snapshot takes none
abbrev pub HasMergeRoom : (id : ℕ) → SourceDiskState → Type 0
HasMergeRoom id d = d.chain.merge_room ≡ Some id

abbrev pub with_freeze_room : SourceDiskState → SourceDiskState
with_freeze_room d = record {
  chain = record d.chain { freeze_room = true };
  tracker = record d.tracker { freeze_room = true };
}

abbrev pub with_merge_room : (id : ℕ) → SourceDiskState → SourceDiskState
with_merge_room id d = record d { chain = record d.chain { merge_room = Some id } }

abbrev pub without_room : SourceDiskState → SourceDiskState
without_room d = record {
  chain = record d.chain { freeze_room = false; merge_room = None };
  tracker = record d.tracker { mark_room = None; freeze_room = false };
}

-- nothing but the room changed
abbrev pub IsSameButRoom : (old new : SourceDiskState) → Type 0
IsSameButRoom old new = without_room new ≡ without_room old
