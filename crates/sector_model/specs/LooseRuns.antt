-- A volume whose loose sectors are told as runs, and what runs say of sectors.
use Rattle.std.specs.Prelude.{◌≡◌, ℕ, ◌+◌, ◌≤◌, List, [], length, map, Bool, ◌||◌}
use Rattle.std.specs.List.{range_with_len, sum_by, All}
use Rattle.sector_model.specs.Run.{end_of, has, in_runs, AreSpaced}
use Rattle.basics.specs.Replaced.{replaced}
use Rattle.sector_model.specs.VolumeContents.{VolumeContents, loose_count, volume_written, volume_flushed}
use Rattle.sector_model.specs.declared.run.Run.{Run}
use Rattle.sector_model.specs.declared.sector.Sector.{Sector}

-- for each of so many sectors, whether one of the runs has it
abbrev pub flags_of : (count : ℕ) → List Run → List Bool
flags_of count runs = map (in_runs runs) (range_with_len 0 count)

-- a volume with these sectors, of which those of the runs are loose
abbrev pub volume_of : (sectors : List Sector) (loose : List Run) → VolumeContents
volume_of sectors loose = record { sectors = sectors; loose = flags_of (length sectors) loose }

-- spaced runs are told by the sectors that they have
abbrev pub RunsAreUnique : Type 0
RunsAreUnique = (a b : List Run) → AreSpaced a → AreSpaced b
    → ((sector : ℕ) → in_runs a sector ≡ in_runs b sector) → a ≡ b

-- as many sectors are loose as the runs have
abbrev pub LooseRunsCount : Type 0
LooseRunsCount = (sectors : List Sector) (loose : List Run) → AreSpaced loose
    → All (λ r. end_of r ≤ length sectors) loose
    → loose_count (volume_of sectors loose) ≡ sum_by (λ r. r.count) loose

-- a write makes its run loose, and a flush leaves no runs
abbrev pub LooseRunsGrow : Type 0
LooseRunsGrow = (sectors : List Sector) (loose new : List Run) (first : ℕ) (written : List Sector)
    → first + length written ≤ length sectors
    → ((sector : ℕ) → in_runs new sector ≡ (in_runs loose sector
    || has sector (record { first = first; count = length written })))
    → volume_of (replaced sectors first written) new
    ≡ volume_written first written (volume_of sectors loose)

abbrev pub NoLooseRuns : Type 0
NoLooseRuns = (sectors : List Sector) (loose : List Run)
    → volume_of sectors [] ≡ volume_flushed (volume_of sectors loose)
