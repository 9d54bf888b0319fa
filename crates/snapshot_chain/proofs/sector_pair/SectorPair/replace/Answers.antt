-- Each of the two is replaced at its own offset.
use Rattle.std.proofs.Common.{◌≡◌, sym, ◌∙◌}
use Rattle.snapshot_chain.specs.SectorPair.{pair_state}
use Rattle.snapshot_chain.proofs.Masks.{kept_sector}
use Rattle.snapshot_chain.proofs.Pairs.{low_replaced, high_replaced, pair_other}
use Rattle.snapshot_chain.proofs.sector_pair.SectorPair.replace.Goals as goal

pub returns-then-offset-from : goal.returns-then-offset-from
returns-then-offset-from c =
    let at : c.args.offset ≡ c.self.inside.low = c.if-offset-from.true ∙ c.from.ensures in
    rw (← c.self.view_is, c.set.ensures, at)
    (low_replaced c.self.inside.low c.self.inside.high c.self.inside.lower c.self.inside.upper
    c.args.sector.now c.self.invariant)

pub returns-then-offset-from-2 : goal.returns-then-offset-from-2
returns-then-offset-from-2 c =
    let at : c.args.offset ≡ c.self.inside.high =
    c.if-offset-from-2.true ∙ c.from-else-offset-from.ensures in
    rw (← c.self.view_is, c.set-then-offset-from-2.ensures, at)
    (high_replaced c.self.inside.low c.self.inside.high c.self.inside.lower c.self.inside.upper
    c.args.sector.now c.self.invariant)

pub returns-else-offset-from-2 : goal.returns-else-offset-from-2
returns-else-offset-from-2 c =
    rw (← c.self.view_is)
    (kept_sector
    (pair_state c.self.inside.low c.self.inside.lower c.self.inside.high c.self.inside.upper)
    c.args.offset c.args.sector.now
    (pair_other c.self.inside.low c.self.inside.high c.args.offset c.self.inside.lower
    c.self.inside.upper c.self.invariant
    (λ same. c.if-offset-from.false (same ∙ sym c.from.ensures))
    (λ same. c.if-offset-from-2.false (same ∙ sym c.from-else-offset-from.ensures))))
