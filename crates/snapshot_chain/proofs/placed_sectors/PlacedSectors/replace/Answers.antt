-- The sector at the index of its offset is another, and no other offset has that index.
use Rattle.std.proofs.Common.{◌≡◌, ◌<◌, length, true, sym, ◌∙◌, arith}
use Rattle.basics.specs.Bits.{has_bit}
use Rattle.snapshot_chain.specs.Page128.{rank}
use Rattle.snapshot_chain.proofs.Masks.{index_below, replaced_sector}
use Rattle.snapshot_chain.proofs.placed_sectors.PlacedSectors.replace.Goals as goal

pub index_mut-requires : goal.index_mut-requires
index_mut-requires c =
    let has : has_bit c.args.self.now.mask c.args.offset ≡ true =
    sym c.has.ensures.has ∙ c.if-has.true in
    let less : rank c.self.inside.mask c.args.offset < length c.self.inside.sectors.items =
    index_below _ c.args.offset c.self.invariant (rw (← c.self.view_is) at has) in
    let index : c.index_of-index.result ≡ rank c.self.inside.mask c.args.offset =
    rw (← c.self.view_is) at c.index_of-index.ensures.index in
    omega (arith, index, less, c.self.inside.sectors.ok.0)

pub returns-then-has-clause-sectors : goal.returns-then-has-clause-sectors
returns-then-has-clause-sectors c =
    let has : has_bit c.args.self.now.mask c.args.offset ≡ true =
    sym c.has.ensures.has ∙ c.if-has.true in
    rw (c.index_of-index.ensures.index, c.set.ensures, ← c.self.view_is)
    (replaced_sector _ c.args.offset c.args.sector.now c.self.invariant.1
    (rw (← c.self.view_is) at has))
