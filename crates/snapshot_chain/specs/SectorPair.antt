-- Two sectors of one block, as the page that they are.
use Rattle.std.specs.Prelude.{ℕ, ◌<◌}
use Rattle.sector_model.specs.declared.run.TheConstants.{BLOCK_SECTORS}
use Rattle.sector_model.specs.declared.sector.Sector.{Sector}
use Rattle.snapshot_chain.specs.Page128.{PageState, no_sectors, with_sector}

-- the page that has just these two
abbrev pub pair_state : (low : ℕ) (lower : Sector) (high : ℕ) (upper : Sector) → PageState
pair_state low lower high upper = with_sector (with_sector no_sectors low lower) high upper

-- the offsets are of a block, the lower one first
abbrev pub AreOffsets : (low high : ℕ) → Type 0
AreOffsets low high = (low < high) × (high < BLOCK_SECTORS)
