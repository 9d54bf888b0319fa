-- How far a stage has come with its disk, as numbers: what each of its steps makes of them, when it
-- may be taken, and how far it has still to go. The blocks that a stage asks for depend on the log
-- of the machine, and are handed in.
use Rattle.std.specs.Prelude.{◌≡◌, ℕ, ◌+◌, ◌-◌, ◌*◌, ◌<◌, ◌≤◌, List, Bool, true, false, ◌||◌, if◌then◌else◌}
use Rattle.std.specs.List.{sum_by}
use Rattle.sector_model.specs.Run.{end_of, in_blocks, areas_of}
use Rattle.sector_model.specs.declared.run.Run.{Run}
use Rattle.warm_core.specs.declared.stage_state.StageState.{StageState}
use Rattle.warm_core.specs.declared.stage_state.TheConstants.{MAX_PIECE_SECTORS}

-- a stage that begins
abbrev pub begun : (capacity : ℕ) (full : Bool) → StageState
begun capacity full = record {
  capacity = capacity;
  full = full;
  at = 0;
  covered = 0;
  written = 0;
  flushed = false;
}

-- its numbers fit one another
pub record IsInOrder (t : StageState) : Type 0 where
  pub passed : t.at ≤ t.covered
  pub within : t.covered ≤ t.capacity
  pub ended : t.flushed ≡ true → t.at ≡ t.capacity
  pub counted : t.written ≤ (if t.full then t.capacity + t.at else t.at)

-- a page was taken that ends before sector `end`
abbrev pub with_page : (end : ℕ) → StageState → StageState
with_page end t = record t { at = t.covered; covered = end }

-- a page was refused: the stage becomes a full one and begins anew, but what it wrote stays counted
abbrev pub made_full : StageState → StageState
made_full t = record t { full = true; at = 0; covered = 0 }

-- the run was copied or zeroed
abbrev pub with_piece : Run → StageState → StageState
with_piece run t = record t { at = end_of run; written = t.written + run.count }

-- the volume was flushed
abbrev pub at_its_end : StageState → StageState
at_its_end t = record t { at = t.capacity; flushed = true }

-- the sectors that the stage has to write: all of them in a full one, in a partial one those of the
-- blocks that it asked for
abbrev pub has_to_write : (blocks : List ℕ) → StageState → (sector : ℕ) → Bool
has_to_write blocks t sector = t.full || in_blocks blocks sector

-- nothing is left to write below `covered`
abbrev pub IsReady : (blocks : List ℕ) → StageState → Type 0
IsReady blocks t = (sector : ℕ) → t.at ≤ sector → sector < t.covered
    → has_to_write blocks t sector ≡ false

-- how many sectors the blocks have below a sector
abbrev pub sectors_below : (blocks : List ℕ) (sector : ℕ) → ℕ
sectors_below blocks sector = sum_by (λ r. r.count) (areas_of sector blocks)

-- the run is a piece: some sectors, and not too many, of those that pages were taken for, and none
-- before `at`
pub record IsPiece (run : Run) (t : StageState) : Type 0 where
  pub some : 1 ≤ run.count
  pub few : run.count ≤ MAX_PIECE_SECTORS
  pub within : end_of run ≤ t.covered
  pub from : t.at ≤ run.first

-- the run may be copied: it lies in one of the areas asked for, and is the first that is left
pub record MayCopy (blocks : List ℕ) (run : Run) (t : StageState) : Type 0 where
  pub piece : IsPiece run t
  pub in_area : (sector : ℕ) → run.first ≤ sector → sector < end_of run
      → in_blocks blocks sector ≡ true
  pub is_next : (sector : ℕ) → t.at ≤ sector → sector < run.first
      → has_to_write blocks t sector ≡ false

-- the run may be zeroed: the stage is a full one, and the run lies in one gap between the areas,
-- from `at` on
pub record MayZero (blocks : List ℕ) (run : Run) (t : StageState) : Type 0 where
  pub piece : IsPiece run t
  pub full : t.full ≡ true
  pub in_gap : (sector : ℕ) → run.first ≤ sector → sector < end_of run
      → in_blocks blocks sector ≡ false
  pub is_next : run.first ≡ t.at

-- a page may be asked for
pub record MayAsk (blocks : List ℕ) (t : StageState) : Type 0 where
  pub ready : IsReady blocks t
  pub more : t.covered < t.capacity

-- the volume may be flushed
pub record MayFlush (blocks : List ℕ) (t : StageState) : Type 0 where
  pub ready : IsReady blocks t
  pub all : t.covered ≡ t.capacity
  pub unflushed : t.flushed ≡ false

-- how far the stage has still to go: each of its steps lowers this number, a refused page too
abbrev pub left_to_go : StageState → ℕ
left_to_go t =
    (if t.full then 0 else 2 * t.capacity + 1) + (t.capacity - t.at) + (t.capacity - t.covered)
    + (if t.flushed then 0 else 1)
