-- Runs of sectors, and blocks of 128 sectors, in which a tracker remembers what changed. A set of
-- sectors is told as its maximal runs, ascending; they are defined sector by sector here, so that
-- no program's way of joining and clipping areas is taken for granted.
use Rattle.std.specs.Prelude.{◌≡◌, ℕ, zero, suc, ◌+◌, ◌-◌, ◌*◌, ◌/◌, ◌<◌, ◌≤◌, ◌^◌, min, max, List, [], ◌∷◌, length, Bool, true, false, not, ◌==◌, ◌&&◌, ◌||◌, nat_eq, nat_lt, nat_le, if◌then◌else◌, Option, option_map}
use Rattle.std.specs.List.{filter, find, list_any, range_with_len}
use Rattle.sector_model.specs.Disk.{Write}
use Rattle.sector_model.specs.declared.run.TheConstants.{BLOCK_SECTORS}
use Rattle.sector_model.specs.declared.run.Run.{Run}

-- how many blocks a disk has, the last one perhaps short
abbrev pub block_count : (capacity : ℕ) → ℕ
block_count capacity = (capacity + (BLOCK_SECTORS - 1)) / BLOCK_SECTORS

-- the block and the range of `count` sectors from `first` on have a sector in common
abbrev pub meets : (block : ℕ) (first count : ℕ) → Bool
meets block first count =
    nat_lt (max (BLOCK_SECTORS * block) first)
    (min (BLOCK_SECTORS * block + BLOCK_SECTORS) (first + count))

-- the blocks of a disk that pass a test, ascending
abbrev pub blocks_where : (capacity : ℕ) (test : ℕ → Bool) → List ℕ
blocks_where capacity test = filter test (range_with_len 0 (block_count capacity))

-- the blocks, and those that a run meets
abbrev pub with_met : (capacity : ℕ) → Run → (blocks : List ℕ) → List ℕ
with_met capacity run blocks =
    blocks_where capacity (λ b. list_any (nat_eq b) blocks || meets b run.first run.count)

-- the blocks of a disk that one of the runs meets
abbrev pub met_blocks : (capacity : ℕ) (runs : List Run) → List ℕ
met_blocks capacity runs =
    blocks_where capacity (λ block. list_any (λ r. meets block r.first r.count) runs)

-- the write replaces a sector of the block
abbrev pub touches : (block : ℕ) → Write → Bool
touches block w = meets block w.first (length w.sectors)

-- the blocks of a disk of which a write replaces a sector
abbrev pub touched_blocks : (capacity : ℕ) (writes : List Write) → List ℕ
touched_blocks capacity writes = blocks_where capacity (λ block. list_any (touches block) writes)

-- the sectors that a write replaces
abbrev pub range_of : Write → Run
range_of w = record { first = w.first; count = length w.sectors }

-- `count` sectors from `first` on are some, and end within the capacity
abbrev pub is_within : (capacity first count : ℕ) → Bool
is_within capacity first count = nat_le 1 count && nat_le (first + count) capacity

-- behind the last sector of a run
abbrev pub end_of : Run → ℕ
end_of r = r.first + r.count

-- the run has the sector
abbrev pub has : (sector : ℕ) → Run → Bool
has sector r = nat_le r.first sector && nat_lt sector (end_of r)

-- one of the runs has the sector
abbrev pub in_runs : (runs : List Run) (sector : ℕ) → Bool
in_runs runs sector = list_any (has sector) runs

-- the sector is of one of the blocks
abbrev pub in_blocks : (blocks : List ℕ) (sector : ℕ) → Bool
in_blocks blocks sector = list_any (nat_eq (sector / BLOCK_SECTORS)) blocks

-- ascending from sector m on, with at least one sector in each run and between two, and each end a
-- number of 64 bits
abbrev pub AreSpacedFrom : (m : ℕ) (runs : List Run) → Type 0
AreSpacedFrom m [] = m ≤ 2 ^ 64
AreSpacedFrom m (r ∷ rs) = (m ≤ r.first) × (0 < r.count) × AreSpacedFrom (end_of r + 1) rs

abbrev pub AreSpaced : (runs : List Run) → Type 0
AreSpaced runs = AreSpacedFrom 0 runs

-- the runs and then sector n: a last run that ends there grows by it, else it is a run of its own
abbrev pub with_sector : (runs : List Run) (n : ℕ) → List Run
with_sector [] n = record { first = n; count = 1 } ∷ []
with_sector (r ∷ []) n =
    if end_of r == n
    then record { first = r.first; count = r.count + 1 } ∷ []
    else r ∷ record { first = n; count = 1 } ∷ []
with_sector (r ∷ q ∷ rs) n = r ∷ with_sector (q ∷ rs) n

-- the runs and then `count` sectors from n on, one after another
abbrev pub with_run : (runs : List Run) (n count : ℕ) → List Run
with_run runs n zero = runs
with_run runs n (suc count) = with_sector (with_run runs n count) (n + count)

-- the maximal runs of the sectors below the capacity that pass a test, ascending: sector for sector
unfoldable pub runs_of : (test : ℕ → Bool) (capacity : ℕ) → List Run
runs_of test zero = []
runs_of test (suc n) = if test n then with_sector (runs_of test n) n else runs_of test n

-- the areas of the blocks on a disk
abbrev pub areas_of : (capacity : ℕ) (blocks : List ℕ) → List Run
areas_of capacity blocks = runs_of (in_blocks blocks) capacity

-- the runs of what is in none of the runs
abbrev pub complement_of : (capacity : ℕ) (runs : List Run) → List Run
complement_of capacity runs = runs_of (λ sector. not (in_runs runs sector)) capacity

-- the part of a run from a sector on
abbrev pub from_sector : (at : ℕ) → Run → Run
from_sector at r = if nat_lt r.first at then record { first = at; count = end_of r - at } else r

-- the first run that reaches past a sector, from there on
abbrev pub next_run : (at : ℕ) (runs : List Run) → Option Run
next_run at runs = option_map (from_sector at) (find (λ r. nat_lt at (end_of r)) runs)

-- no run has a sector from `at` on
abbrev pub NoneFrom : (runs : List Run) (at : ℕ) → Type 0
NoneFrom runs at = (sector : ℕ) → at ≤ sector → in_runs runs sector ≡ false

-- the run is what the runs have next from sector `at` on, and it ends within the capacity: it is
-- not empty, all of it is theirs, and nothing before it
pub record IsNext (runs : List Run) (at capacity : ℕ) (r : Run) : Type 0 where
  pub from : at ≤ r.first
  pub some : 0 < r.count
  pub inside : end_of r ≤ capacity
  pub held : (sector : ℕ) → r.first ≤ sector → sector < end_of r → in_runs runs sector ≡ true
  pub gap : (sector : ℕ) → at ≤ sector → sector < r.first → in_runs runs sector ≡ false
