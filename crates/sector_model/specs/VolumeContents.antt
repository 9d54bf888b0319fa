-- What a target volume holds: its sectors, and which of them are loose, that is written since the
-- last flush that succeeded. A stop of the machine may leave anything in a loose sector, and
-- nothing else in any other one, so this pair is all that has to be known of a volume across a
-- stop. A failed flush leaves it as it was.
use Rattle.std.specs.Prelude.{◌≡◌, ℕ, ◌+◌, List, [], ◌∷◌, length, take, drop, replicate, Bool, true, false, Some, slice_get, slice_index_or, count_by}
use Rattle.sector_model.specs.Sector.{zero_sector}
use Rattle.basics.specs.Replaced.{replaced}
use Rattle.sector_model.specs.declared.sector.Sector.{Sector}

pub record VolumeContents : Type 0 where
  pub sectors : List Sector
  pub loose : List Bool

-- of a volume of this capacity
abbrev pub IsSized : (capacity : ℕ) → VolumeContents → Type 0
IsSized capacity v = (length v.sectors ≡ capacity) × (length v.loose ≡ capacity)

-- nothing is loose
abbrev pub IsFlushed : VolumeContents → Type 0
IsFlushed v = v.loose ≡ replicate (length v.sectors) false

-- the sector is loose
abbrev pub is_loose : (sector : ℕ) → VolumeContents → Bool
is_loose sector v = slice_index_or v.loose sector false

-- how many sectors are loose
abbrev pub loose_count : VolumeContents → ℕ
loose_count v = count_by (λ loose. loose) v.loose

-- what a write leaves: the sectors from `first` on are these, and loose
abbrev pub volume_written : (first : ℕ) (sectors : List Sector) → VolumeContents → VolumeContents
volume_written first sectors v = record {
  sectors = replaced v.sectors first sectors;
  loose = replaced v.loose first (replicate (length sectors) true);
}

-- what a zeroing leaves: what such a write of zero sectors does
abbrev pub volume_zeroed : (first count : ℕ) → VolumeContents → VolumeContents
volume_zeroed first count v = volume_written first (replicate count zero_sector) v

-- what a flush leaves
abbrev pub volume_flushed : VolumeContents → VolumeContents
volume_flushed v = record { sectors = v.sectors; loose = replicate (length v.loose) false }

-- what a write or a zeroing that failed may leave: its range may hold anything and is loose, all
-- else is as before
pub record IsBrokenAt (first count : ℕ) (old new : VolumeContents) : Type 0 where
  pub before : take first new.sectors ≡ take first old.sectors
  pub behind : drop (first + count) new.sectors ≡ drop (first + count) old.sectors
  pub long : length new.sectors ≡ length old.sectors
  pub loose : new.loose ≡ replaced old.loose first (replicate count true)

-- the sectors, but each loose one is the next of those found while they reach
abbrev pub with_found : (loose : List Bool) (sectors found : List Sector) → List Sector
with_found [] sectors found = sectors
with_found (first ∷ loose) [] found = []
with_found (false ∷ loose) (s ∷ sectors) found = s ∷ with_found loose sectors found
with_found (true ∷ loose) (s ∷ sectors) [] = s ∷ sectors
with_found (true ∷ loose) (s ∷ sectors) (f ∷ found) = f ∷ with_found loose sectors found

-- what a stop leaves, after which these are found in the loose sectors, in order: they stay loose
abbrev pub volume_stopped : (found : List Sector) → VolumeContents → VolumeContents
volume_stopped found v =
    record { sectors = with_found v.loose v.sectors found; loose = v.loose }

-- those of the sectors that are loose, in order
abbrev pub loose_of : (loose : List Bool) (sectors : List Sector) → List Sector
loose_of [] sectors = []
loose_of (first ∷ loose) [] = []
loose_of (false ∷ loose) (s ∷ sectors) = loose_of loose sectors
loose_of (true ∷ loose) (s ∷ sectors) = s ∷ loose_of loose sectors

abbrev pub loose_sectors : VolumeContents → List Sector
loose_sectors v = loose_of v.loose v.sectors

-- the same sectors are loose, and each other one is as it was
pub record DiffersOnlyWhereLoose (old new : VolumeContents) : Type 0 where
  pub same_loose : new.loose ≡ old.loose
  pub long : length new.sectors ≡ length old.sectors
  pub others : (s : ℕ) → slice_get old.loose s ≡ Some false
      → slice_get new.sectors s ≡ slice_get old.sectors s
