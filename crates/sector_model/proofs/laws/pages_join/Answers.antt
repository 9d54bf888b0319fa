use Rattle.sector_model.proofs.PageLaws.{pages_joined, page_then_rest}
use Rattle.sector_model.proofs.AreaPages.{area_pages_join}
use Rattle.sector_model.proofs.PageSectors.{areas_from_are_exact, pages_are_exact}
use Rattle.sector_model.proofs.laws.pages_join.Goals as goal

pub returns-clause-all : goal.returns-clause-all
returns-clause-all c =
    λ capacity areas spaced ends start pages are. pages_joined capacity areas start pages spaced
    ends are

pub returns-clause-areas : goal.returns-clause-areas
returns-clause-areas c = area_pages_join

pub returns-clause-rest : goal.returns-clause-rest
returns-clause-rest c = page_then_rest

pub returns-clause-from_start : goal.returns-clause-from_start
returns-clause-from_start c = areas_from_are_exact

pub returns-clause-sectors : goal.returns-clause-sectors
returns-clause-sectors c = pages_are_exact
