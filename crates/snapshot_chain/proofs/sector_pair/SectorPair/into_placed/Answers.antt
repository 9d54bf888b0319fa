-- The upper one stands above the lower one.
use Rattle.snapshot_chain.proofs.Pairs.{lone_below}
use Rattle.snapshot_chain.proofs.sector_pair.SectorPair.into_placed.Goals as goal

pub append-requires-2-clause-above : goal.append-requires-2-clause-above
append-requires-2-clause-above c =
    rw (c.in_ok-append.ensures, c.in_ok-placed.ensures, c.from.ensures, c.from-2.ensures)
    (lone_below c.self.inside.low c.self.inside.high c.self.invariant.0)
