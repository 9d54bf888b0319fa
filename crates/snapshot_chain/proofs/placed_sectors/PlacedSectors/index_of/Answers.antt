-- The bits below the offset.
use Rattle.snapshot_chain.proofs.Masks.{rank_of}
use Rattle.snapshot_chain.proofs.placed_sectors.PlacedSectors.index_of.Goals as goal

pub returns-clause-index : goal.returns-clause-index
returns-clause-index c = rw (← c.self.view_is) (rank_of c.self.inside.mask c.args.offset c.requires)
