-- The test of a bit.
use Rattle.snapshot_chain.proofs.Masks.{test_bit}
use Rattle.snapshot_chain.proofs.placed_sectors.PlacedSectors.has.Goals as goal

pub returns-clause-has : goal.returns-clause-has
returns-clause-has c = rw (← c.self.view_is) (test_bit c.self.inside.mask c.args.offset c.requires)
