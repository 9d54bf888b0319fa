-- The copies so far.
use Rattle.std.proofs.Common.{◌≡◌, take}
use Rattle.snapshot_chain.proofs.placed_sectors.copies_of.Given as goal

abbrev pub invariant-loop-sector : goal.invariant-loop-sector
invariant-loop-sector l = l.copies.items ≡ take l.sector-index l.sectors
