-- A page of a layer: which of the sectors of a block it has, and these in ascending order of their
-- offsets in the block.
use Rattle.std.specs.Prelude.{◌≡◌, ℕ, ◌+◌, ◌-◌, ◌*◌, ◌<◌, ◌≤◌, ◌^◌, ◌%◌, ◌==◌, nat_le, List, [], ◌∷◌, ◌++◌, length, slice_get, Bool, Option, Some, None, IsSome, option_map, unwrap_or, count_ones, true, false, if◌then◌else◌}
use Rattle.std.specs.Option.{option_or}
use Rattle.basics.specs.Bits.{has_bit}
use Rattle.sector_model.specs.declared.run.TheConstants.{BLOCK_SECTORS}
use Rattle.sector_model.specs.declared.sector.Sector.{Sector}

-- bit k of the mask is set where the page has the sector at offset k of its block
pub record PageState : Type 0 where
  pub mask : ℕ
  pub sectors : List Sector

abbrev pub no_sectors : PageState
no_sectors = record { mask = 0; sectors = [] }

-- how many sectors the page has before an offset
abbrev pub rank : (mask offset : ℕ) → ℕ
rank mask offset = count_ones (mask % 2 ^ offset)

-- what the page has at an offset
abbrev pub sector_at : PageState → (offset : ℕ) → Option Sector
sector_at page offset =
    if has_bit page.mask offset then slice_get page.sectors (rank page.mask offset) else None

-- what a run of sectors from sector `first` of a disk on has at a sector
abbrev pub run_at : (first : ℕ) → List Sector → (sector : ℕ) → Option Sector
run_at first sectors sector =
    if nat_le first sector then slice_get sectors (sector - first) else None

-- the page and the sector of an offset above all of its own
abbrev pub with_sector : PageState → (offset : ℕ) → Sector → PageState
with_sector page offset sector = record {
  mask = page.mask + 2 ^ offset;
  sectors =
      page.sectors ++ sector ∷ [];
}

-- the page has a sector for each set bit, at most one for each sector of a block
abbrev pub IsPage : PageState → Type 0
IsPage page = (page.mask < 2 ^ BLOCK_SECTORS) × (length page.sectors ≡ count_ones page.mask)

-- the page has what the upper one has, and elsewhere what the lower one has
abbrev pub IsJoined : (lower upper page : PageState) → Type 0
IsJoined lower upper page = (offset : ℕ) → offset < BLOCK_SECTORS
    → sector_at page offset ≡ option_or (sector_at upper offset) (sector_at lower offset)

-- the page has the part of a run that lies in the block, and elsewhere what was there
abbrev pub IsRewritten : (old : ℕ → Option Sector) (block first : ℕ) → List Sector → PageState
    → Type 0
IsRewritten old block first sectors page = (offset : ℕ) → offset < BLOCK_SECTORS
    → sector_at page offset
    ≡ option_or (run_at first sectors (BLOCK_SECTORS * block + offset)) (old offset)

-- a page that has the run's part, or none where each sector of this part has one to replace
abbrev pub IsGrown : (old : ℕ → Option Sector) (block first : ℕ) → List Sector
    → Option PageState → Type 0
IsGrown old block first sectors (Some page) = IsRewritten old block first sectors page
IsGrown old block first sectors None = (offset : ℕ) → offset < BLOCK_SECTORS
    → IsSome (run_at first sectors (BLOCK_SECTORS * block + offset)) → IsSome (old offset)

-- the page has the run, which lies in its block, or is as it was
abbrev pub IsPutInPlace : (added : Bool) → (offset : ℕ) → List Sector → (old new : PageState)
    → Type 0
IsPutInPlace true offset sectors old new = IsRewritten (sector_at old) 0 offset sectors new
    × (offset + length sectors ≤ BLOCK_SECTORS)
IsPutInPlace false offset sectors old new = new ≡ old

-- each sector that was there is the run's where the run has one, and no other is there
abbrev pub IsOverwritten : (old : ℕ → Option Sector) (block first : ℕ) → List Sector
    → PageState → Type 0
IsOverwritten old block first sectors page = (offset : ℕ) → offset < BLOCK_SECTORS
    → sector_at page offset
    ≡ option_map (unwrap_or (run_at first sectors (BLOCK_SECTORS * block + offset))) (old offset)

-- the sector at the offset is another, if there was one
abbrev pub IsReplaced : (old : PageState) → (offset : ℕ) → Sector → (new : PageState) → Type 0
IsReplaced old offset sector new = (k : ℕ) → k < BLOCK_SECTORS → sector_at new k
    ≡ (if k == offset then option_map (λ was. sector) (sector_at old k) else sector_at old k)

-- the page has the sector at the offset, and elsewhere what it had
abbrev pub IsPut : (old : PageState) → (offset : ℕ) → Sector → (new : PageState) → Type 0
IsPut old offset sector new = (k : ℕ) → k < BLOCK_SECTORS
    → sector_at new k ≡ (if k == offset then Some sector else sector_at old k)
