use Rattle.sector_model.proofs.PageWithin.{page_lies_within}
use Rattle.sector_model.proofs.laws.pages_lie_within.Goals as goal

pub returns : goal.returns
returns c = page_lies_within
