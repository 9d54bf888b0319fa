use Rattle.std.proofs.Common.{◌≡◌, take}
use Rattle.sector_model.specs.Run.{areas_of}
use Rattle.sector_model.proofs.run.Runs.from_blocks.Given as goal

-- the areas of the blocks so far
abbrev pub invariant-loop-block : goal.invariant-loop-block
invariant-loop-block l = l.runs.items ≡ areas_of l.capacity (take l.block-index l.blocks)
