-- What a volume holds of a disk between the stages of a migration, and while one runs. A stage
-- copies a disk as a snapshot froze it. The last stage that was finished is the base: its mark, and
-- the identifier of the disk at its snapshot, since which later changes are asked for.
use Rattle.std.specs.Prelude.{◌≡◌, ℕ, ◌+◌, ◌<◌, ◌≤◌, ◌==◌, ◌⊎◌, List, [], take, Bool, true, false, not, Option, Some, None, IsSome, slice_get, slice_range, Result, if◌then◌else◌}
use Rattle.sector_model.specs.Run.{end_of, in_blocks}
use Rattle.sector_model.specs.VolumeContents.{VolumeContents, IsFlushed, is_loose, volume_written}
use Rattle.sector_model.specs.declared.run.Run.{Run}
use Rattle.sector_model.specs.declared.sector.Sector.{Sector}
use Rattle.change_id.specs.declared.ChangeId.{ChangeId}
use Rattle.change_id.specs.declared.Since.{Since}
use Rattle.change_id.specs.declared.Since.TheVariants.{All, From}
use Rattle.log_model.specs.declared.entry.Entry.{Entry}
use Rattle.log_model.specs.declared.link.Snapped.{Snapped}
use Rattle.log_model.specs.Entry.{contents}
use Rattle.log_model.specs.Marks.{epoch}
use Rattle.log_model.specs.Touched.{touched}
use Rattle.log_model.specs.Query.{changed_areas}
use Rattle.warm_core.specs.declared.disk_world.Base.{Base}
use Rattle.warm_core.specs.declared.stage_state.StageState.{StageState}
use Rattle.warm_core.specs.StageState.{IsInOrder, has_to_write, sectors_below}

-- the disk as the entries before a mark leave it
abbrev pub disk_at : (capacity disk mark : ℕ) → List Entry → List Sector
disk_at capacity disk mark log = contents capacity disk (take mark log)

-- a snapshot is unfinished where it isn't that of the base
abbrev pub is_unfinished : Option Base → Option Snapped → Bool
is_unfinished base None = false
is_unfinished None (Some snap) = true
is_unfinished (Some base) (Some snap) = not (snap.mark == base.mark)

-- the base is of the current snapshot
abbrev pub IsBaseOf : Option Base → Option Snapped → Type 0
IsBaseOf (Some base) (Some snap) = snap.mark ≡ base.mark
IsBaseOf (Some base) None = ⊥
IsBaseOf None snap = ⊥

-- the blocks in which a volume may differ from the disk at the base: those that were touched
-- between the base and a snapshot that is unfinished
abbrev pub open_blocks : (capacity disk : ℕ) → List Entry → Base → Option Snapped → List ℕ
open_blocks capacity disk log base None = []
open_blocks capacity disk log base (Some snap) =
    if is_unfinished (Some base) (Some snap)
    then touched capacity disk base.mark snap.mark log
    else []

-- outside these blocks the volume holds the disk as at the base, and no sector outside is loose
pub record IsOnBase (capacity disk : ℕ) (log : List Entry) (base : Base) (snap : Option Snapped)
    (v : VolumeContents) : Type 0 where
  pub as_base : (sector : ℕ)
      → in_blocks (open_blocks capacity disk log base snap) sector ≡ false
      → slice_get v.sectors sector ≡ slice_get (disk_at capacity disk base.mark log) sector
  pub loose_inside : (sector : ℕ) → is_loose sector v ≡ true
      → in_blocks (open_blocks capacity disk log base snap) sector ≡ true

-- the disk was reset since the base, so that no query since it is answered any more, and the
-- snapshot is unfinished
pub record IsForgotten (disk : ℕ) (log : List Entry) (base : Base) (snap : Option Snapped)
    : Type 0 where
  pub unfinished : is_unfinished (Some base) snap ≡ true
  pub reset : ¬ (epoch disk (take base.mark log) ≡ epoch disk log)

-- what is known of a volume: nothing without a base; and with one, what it holds outside the open
-- blocks, or that a full copy has to come
abbrev pub Staged : (capacity disk : ℕ) → List Entry → Option Base → Option Snapped
    → VolumeContents → Type 0
Staged capacity disk log None snap v = Unit {0}
Staged capacity disk log (Some base) snap v =
    IsOnBase capacity disk log base snap v ⊎ IsForgotten disk log base snap

-- a full copy made at the mark would leave just this
abbrev pub IsFullCopy : (capacity disk mark : ℕ) → List Entry → VolumeContents → Type 0
IsFullCopy capacity disk mark log v = v.sectors ≡ disk_at capacity disk mark log

-- ---- a stage that runs

-- since when a stage asks for changes, and from which place on these are
abbrev pub since_of : (full : Bool) → Option Base → Since
since_of true base = All
since_of false None = All
since_of false (Some base) = From base.id

abbrev pub since_mark : (full : Bool) → Option Base → ℕ
since_mark true base = 0
since_mark false None = 0
since_mark false (Some base) = base.mark

-- the blocks that a stage asks for
abbrev pub blocks_asked : (capacity disk : ℕ) → List Entry → Option Base → Snapped
    → (full : Bool) → List ℕ
blocks_asked capacity disk log base snap full =
    touched capacity disk (since_mark full base) snap.mark log

-- what a query answers the stage
abbrev pub answer : (machine capacity disk : ℕ) → List Entry → Option Base → Snapped
    → (full : Bool) → Result (List Run) (Option ChangeId)
answer machine capacity disk log base snap full =
    changed_areas machine capacity disk snap.id (since_of full base) log

-- a full stage runs without a base, or after a reset
abbrev pub HasToBeFull : (disk : ℕ) → List Entry → Option Base → Snapped → Type 0
HasToBeFull disk log None snap = Unit {0}
HasToBeFull disk log (Some base) snap = IsForgotten disk log base (Some snap)

-- how many sectors a stage has written. A partial one wrote those that it asked for below `at`. A
-- full one wrote each below `at`, and besides what it had copied before its page was refused: at
-- most what it had asked for since the base.
abbrev pub HasWritten : (capacity disk : ℕ) → List Entry → Option Base → Snapped → (full : Bool)
    (at written : ℕ) → Type 0
HasWritten capacity disk log base snap false at written =
    written ≡ sectors_below (blocks_asked capacity disk log base snap false) at
HasWritten capacity disk log None snap true at written = written ≡ at
HasWritten capacity disk log (Some base) snap true at written =
    (at ≤ written)
    × (written ≤ at
    + sectors_below (blocks_asked capacity disk log (Some base) snap false) capacity)

-- what is known of a stage's numbers at a log
pub record StageFits (capacity disk : ℕ) (log : List Entry) (base : Option Base) (snap : Snapped)
    (t : StageState) : Type 0 where
  pub unfinished : is_unfinished base (Some snap) ≡ true
  pub sized : t.capacity ≡ capacity
  pub order : IsInOrder t
  pub written : HasWritten capacity disk log base snap t.full t.at t.written
  pub full : t.full ≡ true → HasToBeFull disk log base snap
  pub partial : t.full ≡ false → IsSome base

-- a partial stage that has taken a page runs over the base
abbrev pub RunsOnBase : (capacity disk : ℕ) → List Entry → Option Base → Snapped
    → VolumeContents → Type 0
RunsOnBase capacity disk log None snap v = ⊥
RunsOnBase capacity disk log (Some base) snap v =
    IsOnBase capacity disk log base (Some snap) v

-- what is known of a volume besides while a stage runs: below `at` each sector that the stage has
-- to write is as the snapshot froze it, and once it is flushed all are, and none is loose
pub record StageHolds (capacity disk : ℕ) (log : List Entry) (base : Option Base) (snap : Snapped)
    (t : StageState) (v : VolumeContents) : Type 0 where
  pub copied : (sector : ℕ) → sector < t.at
      → has_to_write (blocks_asked capacity disk log base snap t.full) t sector ≡ true
      → slice_get v.sectors sector ≡ slice_get (disk_at capacity disk snap.mark log) sector
  pub tight : t.flushed ≡ true → IsFlushed v
  pub whole : t.flushed ≡ true → IsFullCopy capacity disk snap.mark log v
  pub on_base : t.full ≡ false → 0 < t.covered → RunsOnBase capacity disk log base snap v

-- what the copy of a run leaves: the disk's sectors as at the mark, loose
abbrev pub with_copy : (capacity disk mark : ℕ) → List Entry → Run → VolumeContents
    → VolumeContents
with_copy capacity disk mark log run v =
    volume_written run.first
    (slice_range (disk_at capacity disk mark log) run.first (end_of run)) v
