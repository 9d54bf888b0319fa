-- What a page holds, by how it keeps its sectors.
use Rattle.std.specs.Prelude.{◌<◌}
use Rattle.sector_model.specs.declared.run.TheConstants.{BLOCK_SECTORS}
use Rattle.snapshot_chain.specs.declared.page128.PageForm.{PageForm}
use Rattle.snapshot_chain.specs.declared.page128.PageForm.TheVariants.{Nothing, Lone, Pair, Many}
use Rattle.snapshot_chain.specs.Page128.{PageState, no_sectors, with_sector}

abbrev pub page_state : PageForm → PageState
page_state Nothing = no_sectors
page_state (Lone offset sector) = with_sector no_sectors offset sector
page_state (Pair pair) = pair.value
page_state (Many placed) = placed.value

-- a lone sector has an offset in a block
abbrev pub IsOfBlock : PageForm → Type 0
IsOfBlock Nothing = Unit {0}
IsOfBlock (Lone offset sector) = offset < BLOCK_SECTORS
IsOfBlock (Pair pair) = Unit {0}
IsOfBlock (Many placed) = Unit {0}
