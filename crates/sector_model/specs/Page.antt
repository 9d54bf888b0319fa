-- The pages in which a list of areas is told: each begins where the one before it ended, and a
-- limit on the areas of one page bounds the memory that an answer takes.
use Rattle.std.specs.Prelude.{◌≡◌, ℕ, ◌-◌, ◌+◌, ◌<◌, ◌≤◌, List, [], ◌∷◌, length, map, take, slice_index_or, nat_lt, if◌then◌else◌}
use Rattle.std.specs.List.{filter, flat_map, All}
use Rattle.sector_model.specs.Run.{end_of, from_sector, AreSpaced}
use Rattle.sector_model.specs.declared.page.TheConstants.{PAGE_AREAS}
use Rattle.sector_model.specs.declared.run.Run.{Run}

-- where a page starts, how many sectors it speaks of, and the areas among these
pub record PageContents : Type 0 where
  pub start : ℕ
  pub length : ℕ
  pub areas : List Run

-- the areas from sector `start` on; one that holds it is clipped
abbrev pub areas_from : (start : ℕ) (areas : List Run) → List Run
areas_from start areas = map (from_sector start) (filter (λ r. nat_lt start (end_of r)) areas)

-- behind the last sector that a page speaks of, for the areas from its start on: where more follow
-- than one page holds, the end of the last one that it holds, else the capacity
abbrev pub page_end : (capacity : ℕ) (rest : List Run) → ℕ
page_end capacity rest =
    if nat_lt PAGE_AREAS (length rest)
    then end_of (slice_index_or rest (PAGE_AREAS - 1) (record { first = 0; count = 0 }))
    else capacity

-- the page of the areas of a disk, from sector `start` on
abbrev pub page_from : (capacity : ℕ) (areas : List Run) (start : ℕ) → PageContents
page_from capacity areas start = record {
  start = start;
  length = page_end capacity (areas_from start areas) - start;
  areas = take PAGE_AREAS (areas_from start areas);
}

-- each page begins where the one before it ended, and the last one ends at the capacity
abbrev pub ArePages : (capacity : ℕ) (areas : List Run) (start : ℕ) → List PageContents → Type 0
ArePages capacity areas start [] = start ≡ capacity
ArePages capacity areas start (p ∷ ps) =
    (start < capacity) × (p ≡ page_from capacity areas start)
    × ArePages capacity areas (start + p.length) ps

-- the pages of these areas tell all of them from the first page's start on, each sector once and in
-- order
abbrev pub PagesTell : (capacity : ℕ) (areas : List Run) → Type 0
PagesTell capacity areas = (start : ℕ) (pages : List PageContents)
    → ArePages capacity areas start pages → flat_map (λ p. p.areas) pages ≡ areas_from start areas

-- a page that speaks of some sectors below the capacity, whose areas lie in it, none empty,
-- ascending and apart
pub record LiesWithin (capacity : ℕ) (page : PageContents) : Type 0 where
  pub some : 0 < page.length
  pub within : page.start + page.length ≤ capacity
  pub few : length page.areas ≤ PAGE_AREAS
  pub spaced : AreSpaced page.areas
  pub begin_inside : All (λ r. page.start ≤ r.first) page.areas
  pub end_inside : All (λ r. end_of r ≤ page.start + page.length) page.areas
