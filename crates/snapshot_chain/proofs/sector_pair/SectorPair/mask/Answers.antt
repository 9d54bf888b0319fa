-- Two bits of a block.
use Rattle.std.proofs.Common.{arith}
use Rattle.snapshot_chain.proofs.Pairs.{pair_page, pair_fits}
use Rattle.snapshot_chain.proofs.sector_pair.SectorPair.mask.Goals as goal

pub overflow_add-result : goal.overflow_add-result
overflow_add-result c =
    omega (arith, pair_fits c.self.inside.low c.self.inside.high c.self.invariant)

pub returns-clause-page : goal.returns-clause-page
returns-clause-page c = rw (← c.self.view_is)
    (pair_page c.self.inside.low c.self.inside.high c.self.inside.lower c.self.inside.upper
    c.self.invariant)
