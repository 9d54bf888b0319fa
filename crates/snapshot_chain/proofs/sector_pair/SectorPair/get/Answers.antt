-- Each of the two stands at its own offset.
use Rattle.std.proofs.Common.{◌≡◌, sym, ◌∙◌}
use Rattle.snapshot_chain.proofs.Pairs.{pair_low, pair_high, pair_other}
use Rattle.snapshot_chain.proofs.sector_pair.SectorPair.get.Goals as goal

pub returns-then-offset-from : goal.returns-then-offset-from
returns-then-offset-from c =
    let at : c.args.offset ≡ c.self.inside.low = c.if-offset-from.true ∙ c.from.ensures in
    rw (← c.self.view_is, c.as_sector.ensures, at)
    (sym (pair_low c.self.inside.low c.self.inside.high c.self.inside.lower c.self.inside.upper
    c.self.invariant))

pub returns-then-offset-from-2 : goal.returns-then-offset-from-2
returns-then-offset-from-2 c =
    let at : c.args.offset ≡ c.self.inside.high =
    c.if-offset-from-2.true ∙ c.from-else-offset-from.ensures in
    rw (← c.self.view_is, c.as_sector-then-offset-from-2.ensures, at)
    (sym (pair_high c.self.inside.low c.self.inside.high c.self.inside.lower c.self.inside.upper
    c.self.invariant))

pub returns-else-offset-from-2 : goal.returns-else-offset-from-2
returns-else-offset-from-2 c =
    rw (← c.self.view_is)
    (sym (pair_other c.self.inside.low c.self.inside.high c.args.offset c.self.inside.lower
    c.self.inside.upper c.self.invariant
    (λ same. c.if-offset-from.false (same ∙ sym c.from.ensures))
    (λ same. c.if-offset-from-2.false (same ∙ sym c.from-else-offset-from.ensures))))
