-- The pages of the runs of a test.
use Rattle.std.proofs.Common.{◌≡◌, ℕ, ◌<◌, ◌≤◌, ◌^◌, List, Bool}
use Rattle.std.proofs.lemmas.List.Elements.{All-from_recursion}
use Rattle.sector_model.specs.Run.{end_of, runs_of}
use Rattle.sector_model.specs.Page.{PageContents, PagesTell}
use Rattle.sector_model.specs.Laws.{AreaPagesJoin}
use Rattle.sector_model.specs.declared.run.Run.{Run}
use Rattle.sector_model.proofs.Spacing.{SpacedWithin, runs_of-spaced}
use Rattle.sector_model.proofs.PageLaws.{pages_joined}

-- areas that are spaced and end within the capacity are told by their pages
pub pages_tell : (c : ℕ) (areas : List Run) → SpacedWithin 0 c areas → PagesTell c areas
pages_tell c areas k start pages are =
    pages_joined c areas start pages k.spaced (All-from_recursion (λ r. end_of r ≤ c) areas k.ends)
    are

pub area_pages_join : AreaPagesJoin
area_pages_join test c fits = pages_tell c (runs_of test c) (runs_of-spaced test c fits)
