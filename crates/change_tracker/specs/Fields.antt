-- How a tracker is kept: what was touched at all, once for each block; what was touched between
-- freezes since the last reset; and the snapshots, of which the touches are told by the windows
-- between their freezes.
use Rattle.std.specs.Prelude.{◌≡◌, ℕ, ◌+◌, ◌-◌, ◌<◌, ◌≤◌, ◌==◌, ◌&&◌, nat_le, List, [], ◌∷◌, length, map, slice_get, Bool, true, false, Option, Some, None, IfSome, unwrap_or, if◌then◌else◌}
use Rattle.std.specs.List.{enumerate_from}
use Rattle.std.specs.Vec.{vec_len, vec_capacity}
use Rattle.std.specs.declared.vec.Vec.{Vec}
use Rattle.std.specs.declared.alloc.Global.{Global}
use Rattle.change_id.specs.ChangeId.{counted_id}
use Rattle.change_id.specs.declared.ChangeId.{ChangeId}
use Rattle.sector_model.specs.declared.run.Run.{Run}
use Rattle.change_tracker.specs.declared.frozen_snapshot.FrozenSnapshot.{FrozenSnapshot}
use Rattle.change_tracker.specs.declared.word.Window.{Window}
use Rattle.change_tracker.specs.declared.maps.Maps.{Maps}
use Rattle.change_tracker.specs.Touches.{TouchState, is_touched_in, blocks_touched_in}
use Rattle.change_tracker.specs.Maps.{window, is_met_by, HasRoomWhere, NoneTouchedLater}
use Rattle.change_tracker.specs.Tracker.{TrackerState, Snapshot}

-- the snapshot at a place of the list
abbrev pub snapshot_at : (capacity : ℕ) (maps : Maps) → ℕ × FrozenSnapshot → Snapshot
snapshot_at capacity maps (place, kept) = record {
  id = kept.id;
  change_id = kept.change_id;
  blocks = blocks_touched_in capacity maps.first (window 0 (place + 1));
  changes = blocks_touched_in capacity maps.changes (window place (place + 1));
}

abbrev pub state_of : (machine disk capacity resets : ℕ) (counted : Option ℕ)
    (maps : Maps) (snapshots : List FrozenSnapshot) (free_from : ℕ)
    (mark_room : Option Run) (freeze_room : Bool) → TrackerState
state_of machine disk capacity resets counted maps snapshots free_from mark_room
    freeze_room = record {
      machine = machine;
      disk = disk;
      capacity = capacity;
      epoch = resets;
      counted = counted;
      blocks = blocks_touched_in capacity maps.first (window 0 (length snapshots + 1));
      changes = blocks_touched_in capacity maps.changes
          (window (length snapshots) (length snapshots + 1));
      snapshots = map (snapshot_at capacity maps) (enumerate_from 0 snapshots);
      free_from = free_from;
      mark_room = mark_room;
      freeze_room = freeze_room;
    }

-- the ids ascend, each below a bound
abbrev pub IdsAscend : (from bound : ℕ) → List FrozenSnapshot → Type 0
IdsAscend from bound [] = from ≤ bound
IdsAscend from bound (kept ∷ rest) = (from ≤ kept.id) × IdsAscend (kept.id + 1) bound rest

-- some ids that ascend
abbrev pub IsAscending : List FrozenSnapshot → Type 0
IsAscending snapshots = (bound : ℕ) × IdsAscend 0 bound snapshots

-- the snapshot at this place of the list has the id
abbrev pub IsAt : List FrozenSnapshot → (place id : ℕ) → Type 0
IsAt snapshots place id =
    (kept : FrozenSnapshot) × (slice_get snapshots place ≡ Some kept) × (kept.id ≡ id)

-- the run lies within the disk, and marking it after this many freezes takes no memory
pub record CanMark (capacity : ℕ) (maps : Maps) (freezes : ℕ) (run : Run) : Type 0 where
  pub some : 1 ≤ run.count
  pub within : run.first + run.count ≤ capacity
  pub room : HasRoomWhere (is_met_by run) maps freezes

-- no block was touched after more than this many freezes
abbrev pub NoLater : TouchState → (freezes : ℕ) → Type 0
NoLater touches freezes = (w : Window) (block : ℕ) → freezes < w.from
    → is_touched_in touches w block ≡ false

-- each first touch came after at most this many freezes
abbrev pub IsByNow : TouchState → (freezes : ℕ) → Type 0
IsByNow touches freezes = (end block : ℕ) → freezes < end
    → is_touched_in touches (window 0 end) block
    ≡ is_touched_in touches (window 0 (freezes + 1)) block

pub record IsKept (capacity : ℕ) (counted : Option ℕ) (maps : Maps)
    (snapshots : Vec FrozenSnapshot Global) (free_from : ℕ) (mark_room : Option Run)
    (freeze_room : Bool)
    : Type 0 where
  pub ascending : IdsAscend 0 free_from snapshots.items
  pub few : unwrap_or counted 0 ≤ length snapshots.items
  pub later : NoneTouchedLater maps (length snapshots.items)
  pub first_past : IsByNow maps.first (length snapshots.items)
  pub changes_past : NoLater maps.changes (length snapshots.items)
  pub can_mark : IfSome mark_room (CanMark capacity maps (length snapshots.items))
  pub can_freeze : freeze_room ≡ true → vec_len snapshots < vec_capacity snapshots

-- the identifier is of the epoch with this UUID, and so is the one at a snapshot, whose number
-- isn't lower
abbrev pub is_accepted : (uuid : ℕ) (at : Option ChangeId) (from : ChangeId) → Bool
is_accepted uuid None from = false
is_accepted uuid (Some at) from =
    from.uuid == uuid && at.uuid == uuid && nat_le 1 from.seq && nat_le from.seq at.seq

-- the freezes since a lower number, up to the snapshot at a place, which has this one
abbrev pub window_from : (place : ℕ) (at : Option ChangeId) (seq : ℕ) → Window
window_from place None seq = window 0 0
window_from place (Some at) seq = window (place + 1 - (at.seq - seq)) (place + 1)

-- the identifier in force, of the epoch with this UUID
abbrev pub in_force_of : (uuid : ℕ) (counted : Option ℕ) → Option ChangeId
in_force_of uuid counted = counted_id uuid (unwrap_or counted 0)
