-- What a tracker holds: of each snapshot its identifier, the blocks that were touched before it,
-- and those that changed since the one before it; and for which next call room was made. Maps are
-- how it is kept, and no caller sees them.
use Rattle.std.specs.Prelude.{ℕ, ◌+◌, ◌==◌, List, [], ◌∷◌, ◌++◌, map, Bool, false, Option, Some, None, unwrap_or, option_map, if◌then◌else◌}
use Rattle.std.specs.List.{find}
use Rattle.sector_model.specs.Run.{is_within, with_met}
use Rattle.sector_model.specs.declared.run.Run.{Run}
use Rattle.change_id.specs.ChangeId.{packed}
use Rattle.change_id.specs.declared.ChangeId.{ChangeId}
use Rattle.change_tracker.specs.declared.refusals.TrackRefused.{TrackRefused}
use Rattle.change_tracker.specs.declared.refusals.TrackRefused.TheVariants.{Range}

-- a snapshot that was frozen. A later reset forgets its changes and nothing else of it.
pub record Snapshot : Type 0 where
  pub id : ℕ
  pub change_id : Option ChangeId  -- none where tracking wasn't enabled before it
  pub blocks : List ℕ  -- touched before it, ascending
  -- touched since the snapshot before it and the last reset before it, ascending
  pub changes : List ℕ

pub record TrackerState : Type 0 where
  pub machine : ℕ
  pub disk : ℕ
  pub capacity : ℕ
  pub epoch : ℕ  -- how often tracking was reset
  -- snapshots since tracking was enabled and last reset, none before it was enabled
  pub counted : Option ℕ
  pub blocks : List ℕ  -- touched so far, ascending
  pub changes : List ℕ  -- touched since the last snapshot and the last reset, ascending
  pub snapshots : List Snapshot  -- in the order in which they were frozen
  pub free_from : ℕ  -- no snapshot had an id from here on
  pub mark_room : Option Run  -- marking this run takes no memory
  pub freeze_room : Bool  -- the next freeze takes no memory

-- the tracker of a disk of which nothing was told
abbrev pub fresh : (machine disk capacity : ℕ) → TrackerState
fresh machine disk capacity = record {
  machine = machine;
  disk = disk;
  capacity = capacity;
  epoch = 0;
  counted = None;
  blocks = [];
  changes = [];
  snapshots = [];
  free_from = 0;
  mark_room = None;
  freeze_room = false;
}

-- the snapshot with an id
abbrev pub snapshot_of : (id : ℕ) → TrackerState → Option Snapshot
snapshot_of id tracker = find (λ s. s.id == id) tracker.snapshots

-- the identifier that the next snapshot gets
abbrev pub next_id : TrackerState → Option ChangeId
next_id tracker = option_map
    (λ n. record { uuid = packed tracker.machine tracker.disk tracker.epoch; seq = n + 1 })
    tracker.counted

abbrev pub after_marking : Run → TrackerState → TrackerState
after_marking run tracker = record tracker {
  blocks = with_met tracker.capacity run tracker.blocks;
  changes = with_met tracker.capacity run tracker.changes;
  mark_room = None;
}

abbrev pub after_freezing : (id : ℕ) → TrackerState → TrackerState
after_freezing id tracker = record tracker {
  counted = option_map (λ n. n + 1) tracker.counted;
  changes = [];
  snapshots = tracker.snapshots ++ record {
    id = id;
    change_id = next_id tracker;
    blocks = tracker.blocks;
    changes = tracker.changes;
  } ∷ [];
  free_from = id + 1;
  mark_room = None;
  freeze_room = false;
}

abbrev pub after_enabling : TrackerState → TrackerState
after_enabling tracker = record tracker { counted = Some (unwrap_or tracker.counted 0) }

abbrev pub without_changes : Snapshot → Snapshot
without_changes snapshot = record snapshot { changes = [] }

abbrev pub after_reset : TrackerState → TrackerState
after_reset tracker = record tracker {
  epoch = tracker.epoch + 1;
  counted = option_map (λ n. 0) tracker.counted;
  changes = [];
  snapshots = map without_changes tracker.snapshots;
  mark_room = None;
}

-- why marking a run is refused, but for want of memory
abbrev pub mark_refusal : Run → TrackerState → Option TrackRefused
mark_refusal run tracker =
    if is_within tracker.capacity run.first run.count then None else Some Range
