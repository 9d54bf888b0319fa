-- What a tracker was told of its disk, step by step, and what one that stands for these steps
-- holds. Identifiers and answers are the words that change_id has of any such list.
use Rattle.std.specs.Prelude.{◌≡◌, ℕ, ◌+◌, ◌-◌, ◌<◌, ◌≤◌, ◌==◌, ◌↔◌, List, [], ◌∷◌, ◌++◌, length, take, drop, slice_get, slice_range, nat_eq, nat_lt, not, Bool, true, false, ◌||◌, Option, Some, None, is_some, unwrap_or, Result, Ok, Err, if◌then◌else◌}
use Rattle.std.specs.List.{filter_map, list_any}
use Rattle.sector_model.specs.Run.{block_count, meets, met_blocks, areas_of}
use Rattle.sector_model.specs.declared.run.Run.{Run}
use Rattle.change_id.specs.ChangeId.{packed}
use Rattle.change_id.specs.History.{Reading}
use Rattle.change_id.specs.History as history
use Rattle.change_id.specs.declared.ChangeId.{ChangeId}
use Rattle.change_id.specs.declared.Since.{Since}
use Rattle.change_tracker.specs.declared.refusals.TrackRefused.{TrackRefused}
use Rattle.change_tracker.specs.declared.refusals.TrackRefused.TheVariants.{UnknownSnap, Range, Strange}
use Rattle.change_tracker.specs.Tracker.{TrackerState, Snapshot, snapshot_of}

-- a run was written, a snapshot was frozen, tracking was enabled, tracking was reset
pub data TrackStep : Type 0 where
  Marked : (run : Run) → TrackStep
  Frozen : (id : ℕ) → TrackStep
  Enabled : TrackStep
  Reset : TrackStep

abbrev pub run_in : TrackStep → Option Run
run_in (Marked run) = Some run
run_in (Frozen id) = None
run_in Enabled = None
run_in Reset = None

abbrev pub is_frozen : TrackStep → Bool
is_frozen (Frozen id) = true
is_frozen (Marked run) = false
is_frozen Enabled = false
is_frozen Reset = false

abbrev pub freezes : (snapshot : ℕ) → TrackStep → Bool
freezes snapshot (Frozen id) = id == snapshot
freezes snapshot (Marked run) = false
freezes snapshot Enabled = false
freezes snapshot Reset = false

abbrev pub is_enabled : TrackStep → Bool
is_enabled Enabled = true
is_enabled (Marked run) = false
is_enabled (Frozen id) = false
is_enabled Reset = false

abbrev pub is_reset : TrackStep → Bool
is_reset Reset = true
is_reset (Marked run) = false
is_reset (Frozen id) = false
is_reset Enabled = false

-- what a step is to the tracking of the disk
abbrev pub reading : Reading TrackStep
reading = record {
  is_snap = is_frozen;
  takes = freezes;
  resets = is_reset;
  enables = is_enabled;
}

-- the runs that were written between two places of the list, in order
abbrev pub runs_between : (from end : ℕ) → List TrackStep → List Run
runs_between from end steps = filter_map run_in (drop from (take end steps))

-- the areas that changed between two places
abbrev pub areas_between : (capacity from end : ℕ) → List TrackStep → List Run
areas_between capacity from end steps =
    areas_of capacity (met_blocks capacity (runs_between from end steps))

-- the identifier at a snapshot
abbrev pub id_at : (machine disk snapshot : ℕ) → List TrackStep → Option ChangeId
id_at machine disk snapshot steps = history.id_at reading machine disk snapshot steps

-- what a query of the snapshot answers
abbrev pub answered : (machine disk capacity snapshot : ℕ) → Since → List TrackStep
    → Result (List Run) (Option ChangeId)
answered machine disk capacity snapshot since steps =
    history.answered reading machine disk snapshot
    (λ from end. areas_between capacity from end steps) since steps

-- why a call is refused, its reasons in order
abbrev pub snapshot_refusal : (snapshot : ℕ) → List TrackStep → Option TrackRefused
snapshot_refusal snapshot steps =
    if list_any (freezes snapshot) steps then None else Some UnknownSnap

abbrev pub strange_refusal : Result (List Run) (Option ChangeId) → Option TrackRefused
strange_refusal (Ok areas) = None
strange_refusal (Err id) = Some (Strange id)

abbrev pub query_refusal : (machine disk capacity snapshot : ℕ) → Since → (start : ℕ)
    → List TrackStep → Option TrackRefused
query_refusal machine disk capacity snapshot since start steps =
    if not (list_any (freezes snapshot) steps) then Some UnknownSnap
    else if not (nat_lt start capacity) then Some Range
    else strange_refusal (answered machine disk capacity snapshot since steps)

-- ---- what a tracker that stands for the steps holds

abbrev pub mark : (snapshot : ℕ) → List TrackStep → ℕ
mark snapshot steps = history.mark freezes snapshot steps

-- one of the runs meets the block
abbrev pub is_met : (block : ℕ) → List Run → Bool
is_met block runs = list_any (λ r. meets block r.first r.count) runs

-- the snapshot is one of the steps, and has the identifier and the blocks that they give it
pub record IsFrozenAs (tracker : TrackerState) (steps : List TrackStep) (snapshot : Snapshot)
    : Type 0 where
  pub within : mark snapshot.id steps < length steps
  pub change_id : snapshot.change_id ≡ id_at tracker.machine tracker.disk snapshot.id steps
  pub blocks : snapshot.blocks
      ≡ met_blocks tracker.capacity (runs_between 0 (mark snapshot.id steps) steps)
  -- its own step resets nothing
  pub epoch : history.epoch reading (history.through freezes snapshot.id steps)
      ≡ history.epoch reading (history.before freezes snapshot.id steps)

-- the snapshot has an identifier of the present epoch
abbrev pub IsOfEpoch : TrackerState → Snapshot → Type 0
IsOfEpoch tracker snapshot = (id : ChangeId) × (snapshot.change_id ≡ Some id)
    × (id.uuid ≡ packed tracker.machine tracker.disk tracker.epoch)

-- the block is among the changes of one of the snapshots from one place of their list on, before
-- another
abbrev pub changed_in : TrackerState → (from end : ℕ) (block : ℕ) → Bool
changed_in tracker from end block =
    list_any (λ s. list_any (nat_eq block) s.changes) (slice_range tracker.snapshots from end)

-- the changes of the snapshots behind this one join to the blocks that the runs meet: up to each
-- later snapshot, and up to now
pub record TellsChanges (tracker : TrackerState) (steps : List TrackStep) (place : ℕ)
    (snapshot : Snapshot) : Type 0 where
  pub upto : (later : ℕ) (other : Snapshot) → place ≤ later
      → slice_get tracker.snapshots later ≡ Some other
      → (block : ℕ) → block < block_count tracker.capacity
      → changed_in tracker (place + 1) (later + 1) block
      ≡ is_met block (runs_between (mark snapshot.id steps) (mark other.id steps) steps)
  pub now : (block : ℕ) → block < block_count tracker.capacity
      → (changed_in tracker (place + 1) (length tracker.snapshots) block
      || list_any (nat_eq block) tracker.changes)
      ≡ is_met block (runs_between (mark snapshot.id steps) (length steps) steps)

-- the last `count` snapshots before this end of their list have the numbers of an epoch from 1 on
pub record AreNumbered (tracker : TrackerState) (end count uuid : ℕ) : Type 0 where
  pub enough : count ≤ end
  pub each : (seq : ℕ) → 1 ≤ seq → seq ≤ count → (snapshot : Snapshot)
      × (slice_get tracker.snapshots (end - (count - seq) - 1) ≡ Some snapshot)
      × (snapshot.change_id ≡ Some (record { uuid = uuid; seq = seq }))

-- the tracker holds what the steps leave
pub record StandsFor (tracker : TrackerState) (steps : List TrackStep) : Type 0 where
  pub epoch : tracker.epoch ≡ history.epoch reading steps
  pub counted : tracker.counted ≡ history.counted reading steps
  pub blocks : tracker.blocks
      ≡ met_blocks tracker.capacity (runs_between 0 (length steps) steps)
  pub known : (s : ℕ) → is_some (snapshot_of s tracker) ≡ list_any (freezes s) steps
  pub frozen : (place : ℕ) (snapshot : Snapshot)
      → slice_get tracker.snapshots place ≡ Some snapshot → IsFrozenAs tracker steps snapshot
  pub numbers : (place : ℕ) (snapshot : Snapshot) (id : ChangeId)
      → slice_get tracker.snapshots place ≡ Some snapshot → snapshot.change_id ≡ Some id
      → AreNumbered tracker (place + 1) id.seq id.uuid
  pub present : AreNumbered tracker (length tracker.snapshots) (unwrap_or tracker.counted 0)
      (packed tracker.machine tracker.disk tracker.epoch)
  pub changes : (place : ℕ) (snapshot : Snapshot)
      → slice_get tracker.snapshots place ≡ Some snapshot → IsOfEpoch tracker snapshot
      → TellsChanges tracker steps place snapshot
  -- an id is free exactly where it is above all that were frozen
  pub free : (id : ℕ)
      → (tracker.free_from ≤ id) ↔ ((s : ℕ) → list_any (freezes s) steps ≡ true → s < id)

-- whatever the old value stood for, the new one stands for with one step more
abbrev pub Takes : TrackStep → (old new : TrackerState) → Type 0
Takes step old new = (steps : List TrackStep) → StandsFor old steps
    → StandsFor new (steps ++ step ∷ [])
