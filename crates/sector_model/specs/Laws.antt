-- What the definitions say together. Each is the contract of a public function of laws.rt whose
-- body does nothing.
use Rattle.std.specs.Prelude.{◌≡◌, ℕ, ◌+◌, ◌<◌, ◌≤◌, ◌^◌, List, ◌++◌, length, map, Bool, false, ◌&&◌, ◌||◌, nat_lt, nat_le}
use Rattle.std.specs.List.{fold, All}
use Rattle.sector_model.specs.Disk.{Write, after_write, fold_writes}
use Rattle.sector_model.specs.Run.{end_of, in_runs, runs_of, AreSpaced, met_blocks, range_of, touched_blocks}
use Rattle.sector_model.specs.Page.{areas_from, page_from, PagesTell, LiesWithin}
use Rattle.sector_model.specs.VolumeContents.{VolumeContents, IsSized, IsFlushed, is_loose, loose_count, volume_written, volume_zeroed, volume_flushed, IsBrokenAt, volume_stopped, loose_sectors, DiffersOnlyWhereLoose}
use Rattle.sector_model.specs.declared.run.Run.{Run}
use Rattle.sector_model.specs.declared.sector.Sector.{Sector}

-- later writes go on from what the earlier ones leave
abbrev pub FoldsJoin : Type 0
FoldsJoin = (capacity : ℕ) (earlier later : List Write)
    → fold_writes capacity (earlier ++ later)
    ≡ fold after_write (fold_writes capacity earlier) later

-- the blocks that writes touch are those that their ranges meet: what is written doesn't matter
abbrev pub TouchedAreMet : Type 0
TouchedAreMet = (capacity : ℕ) (writes : List Write)
    → touched_blocks capacity writes ≡ met_blocks capacity (map range_of writes)

-- the runs of a test are spaced, and have exactly the sectors below the capacity that pass it
abbrev pub RunsAreSpaced : Type 0
RunsAreSpaced = (test : ℕ → Bool) (capacity : ℕ)
    → capacity < 2 ^ 64 → AreSpaced (runs_of test capacity)

abbrev pub RunsAreExact : Type 0
RunsAreExact = (test : ℕ → Bool) (capacity s : ℕ)
    → in_runs (runs_of test capacity) s ≡ (nat_lt s capacity && test s)

abbrev pub RunsEndWithin : Type 0
RunsEndWithin = (test : ℕ → Bool) (capacity : ℕ)
    → capacity < 2 ^ 64 → All (λ r. end_of r ≤ capacity) (runs_of test capacity)

-- pages taken from each page's end on tell the areas
abbrev pub PagesJoin : Type 0
PagesJoin = (capacity : ℕ) (areas : List Run)
    → AreSpaced areas → All (λ r. end_of r ≤ capacity) areas → PagesTell capacity areas

-- and so do those of the runs of a test
abbrev pub AreaPagesJoin : Type 0
AreaPagesJoin = (test : ℕ → Bool) (capacity : ℕ)
    → capacity < 2 ^ 64 → PagesTell capacity (runs_of test capacity)

-- a page that starts below the capacity ends above its start and within the capacity, and its areas
-- lie in it
abbrev pub PagesLieWithin : Type 0
PagesLieWithin = (capacity : ℕ) (areas : List Run) (start : ℕ)
    → AreSpaced areas → All (λ r. end_of r ≤ capacity) areas
    → start < capacity → LiesWithin capacity (page_from capacity areas start)

-- the areas from a start on have the areas' sectors from there on, and a page those up to its end
abbrev pub AreasFromAreExact : Type 0
AreasFromAreExact = (areas : List Run) (start s : ℕ)
    → in_runs (areas_from start areas) s ≡ (nat_le start s && in_runs areas s)

abbrev pub PagesAreExact : Type 0
PagesAreExact = (capacity : ℕ) (areas : List Run) (start s : ℕ)
    → AreSpaced areas → All (λ r. end_of r ≤ capacity) areas → start < capacity
    → in_runs (page_from capacity areas start).areas s
    ≡ (nat_le start s && nat_lt s (start + (page_from capacity areas start).length)
    && in_runs areas s)

-- what follows a page are the areas from its end on
abbrev pub PageThenRest : Type 0
PageThenRest = (capacity : ℕ) (areas : List Run) (start : ℕ)
    → AreSpaced areas → All (λ r. end_of r ≤ capacity) areas → start < capacity
    → areas_from start areas ≡ (page_from capacity areas start).areas
    ++ areas_from (start + (page_from capacity areas start).length) areas

-- what is done to a volume keeps its size
pub record VolumesKeepTheirSize (capacity : ℕ) (v : VolumeContents) : Type 0 where
  pub written : (first : ℕ) (sectors : List Sector) → first + length sectors ≤ capacity
      → IsSized capacity (volume_written first sectors v)
  pub zeroed : (first count : ℕ) → first + count ≤ capacity
      → IsSized capacity (volume_zeroed first count v)
  pub flushed : IsSized capacity (volume_flushed v)
  pub stopped : (found : List Sector) → IsSized capacity (volume_stopped found v)
  pub broken : (first count : ℕ) (new : VolumeContents) → first + count ≤ capacity
      → IsBrokenAt first count v new → IsSized capacity new

-- a stop of a volume where nothing is loose leaves it, and any stop leaves each sector that isn't
-- loose
abbrev pub StopLeavesFlushed : Type 0
StopLeavesFlushed = (capacity : ℕ) (v : VolumeContents) (found : List Sector)
    → IsSized capacity v → IsFlushed v → volume_stopped found v ≡ v

abbrev pub StopLeavesOthers : Type 0
StopLeavesOthers = (capacity : ℕ) (v : VolumeContents) (found : List Sector)
    → IsSized capacity v → DiffersOnlyWhereLoose v (volume_stopped found v)

-- and whatever differs from it only there is what a stop leaves, by as many sectors as are loose
pub record IsStopped (old new : VolumeContents) : Type 0 where
  pub same : new ≡ volume_stopped (loose_sectors new) old
  pub long : length (loose_sectors new) ≡ loose_count old

abbrev pub EachIsAStop : Type 0
EachIsAStop = (capacity : ℕ) (old new : VolumeContents)
    → IsSized capacity old → DiffersOnlyWhereLoose old new → IsStopped old new

-- as many sectors as are loose are what is read there after a stop that leaves them, so that stops
-- that leave others leave other contents
abbrev pub FoundAreRead : Type 0
FoundAreRead = (capacity : ℕ) (v : VolumeContents) (found : List Sector)
    → IsSized capacity v → length found ≡ loose_count v
    → loose_sectors (volume_stopped found v) ≡ found

-- stops one after another are one, and none where nothing is loose
pub record DiffersInARow (a b c : VolumeContents) : Type 0 where
  pub none : DiffersOnlyWhereLoose a a
  pub two : DiffersOnlyWhereLoose a b → DiffersOnlyWhereLoose b c → DiffersOnlyWhereLoose a c
  pub flushed : (capacity : ℕ) → IsSized capacity a → IsFlushed a → DiffersOnlyWhereLoose a b
      → b ≡ a

-- a volume is flushed exactly where no sector is loose
pub record FlushedIsNoneLoose (capacity : ℕ) (v : VolumeContents) : Type 0 where
  pub none : IsFlushed v → loose_count v ≡ 0
  pub flushed : loose_count v ≡ 0 → IsFlushed v
  pub by_flush : IsFlushed (volume_flushed v)

-- which sectors are loose then
pub record LooseThen (capacity : ℕ) (v : VolumeContents) (s : ℕ) : Type 0 where
  pub written : (first : ℕ) (sectors : List Sector) → first + length sectors ≤ capacity
      → is_loose s (volume_written first sectors v)
      ≡ (is_loose s v || nat_le first s && nat_lt s (first + length sectors))
  pub zeroed : (first count : ℕ) → first + count ≤ capacity
      → is_loose s (volume_zeroed first count v)
      ≡ (is_loose s v || nat_le first s && nat_lt s (first + count))
  pub flushed : is_loose s (volume_flushed v) ≡ false
  pub stopped : (found : List Sector) → is_loose s (volume_stopped found v) ≡ is_loose s v
  pub broken : (first count : ℕ) (new : VolumeContents) → first + count ≤ capacity
      → IsBrokenAt first count v new
      → is_loose s new ≡ (is_loose s v || nat_le first s && nat_lt s (first + count))

-- a write or a zeroing that failed leaves what the whole one would, but for loose sectors
abbrev pub BrokenIsWritten : Type 0
BrokenIsWritten = (capacity first : ℕ) (sectors : List Sector) (old new : VolumeContents)
    → IsSized capacity old → first + length sectors ≤ capacity
    → IsBrokenAt first (length sectors) old new
    → DiffersOnlyWhereLoose (volume_written first sectors old) new

abbrev pub BrokenIsZeroed : Type 0
BrokenIsZeroed = (capacity first count : ℕ) (old new : VolumeContents)
    → IsSized capacity old → first + count ≤ capacity
    → IsBrokenAt first count old new
    → DiffersOnlyWhereLoose (volume_zeroed first count old) new
