-- What a stage does next: the page that it has tells the areas below `covered`, and a stage goes
-- through these in ascending order, a piece at a time.
use Rattle.std.specs.Prelude.{◌≡◌, ℕ, ◌+◌, ◌-◌, ◌≤◌, ◌&&◌, nat_lt, min, List, true, Option, None, if◌then◌else◌}
use Rattle.std.specs.Option.{option_map_or}
use Rattle.sector_model.specs.Run.{areas_of, next_run}
use Rattle.sector_model.specs.Page.{PageContents, page_from, LiesWithin}
use Rattle.sector_model.specs.declared.run.Run.{Run}
use Rattle.warm_core.specs.declared.stage_state.StageState.{StageState}
use Rattle.warm_core.specs.declared.stage_state.Piece.{Piece}
use Rattle.warm_core.specs.declared.stage_state.Piece.TheVariants.{Ask, Copy, Zero, Flush, Done}
use Rattle.warm_core.specs.declared.stage_state.TheConstants.{MAX_PIECE_SECTORS}
use Rattle.warm_core.specs.StageState.{MayAsk, MayCopy, MayZero, MayFlush}

-- the first sectors of a run, as many as one piece has
abbrev pub piece_from : (first count : ℕ) → Run
piece_from first count = record { first = first; count = min MAX_PIECE_SECTORS count }

-- the area that is left on the page, from `at` on
abbrev pub next_area : StageState → PageContents → Option Run
next_area t page = if nat_lt t.at t.covered then next_run t.at page.areas else None

-- where it begins, or what the page covers ends
abbrev pub gap_end : StageState → PageContents → ℕ
gap_end t page = option_map_or (λ area. area.first) (next_area t page) t.covered

-- a page was gone through: the next one, or the flush
abbrev pub piece_behind : StageState → Piece
piece_behind t = if nat_lt t.covered t.capacity then Ask t.covered else Flush

-- a full stage zeroes each gap; every stage copies each area
abbrev pub piece_of : StageState → PageContents → Piece
piece_of t page =
    if t.flushed then Done
    else if t.full && nat_lt t.at (gap_end t page)
    then Zero (piece_from t.at (gap_end t page - t.at))
    else option_map_or (λ area. Copy (piece_from area.first area.count)) (next_area t page)
    (piece_behind t)

-- the page reaches from `at` or before it to the end of what was covered
pub record Reaches (t : StageState) (page : PageContents) : Type 0 where
  pub lies : LiesWithin t.capacity page
  pub start : page.start ≤ t.at
  pub end : page.start + page.length ≡ t.covered

-- the page is one of the areas that the stage asks for
abbrev pub IsPageOf : (blocks : List ℕ) → StageState → PageContents → Type 0
IsPageOf blocks t page = page ≡ page_from t.capacity (areas_of t.capacity blocks) page.start

-- the piece may be carried out
abbrev pub MayBeNext : (blocks : List ℕ) → StageState → Piece → Type 0
MayBeNext blocks t (Ask start) = (start ≡ t.covered) × MayAsk blocks t
MayBeNext blocks t (Copy run) = MayCopy blocks run t
MayBeNext blocks t (Zero run) = MayZero blocks run t
MayBeNext blocks t Flush = MayFlush blocks t
MayBeNext blocks t Done = t.flushed ≡ true
