-- The mask with the new bit, and the number of its bits.
use Rattle.std.proofs.Common.{refl, ◌<◌, ◌^◌}
use Rattle.snapshot_chain.proofs.Masks.{set_bit, below_all, grown_count}
use Rattle.snapshot_chain.proofs.placed_sectors.PlacedSectors.append.Goals as goal

pub invariant_of-self-2 : goal.invariant_of-self-2
invariant_of-self-2 c =
    let above : c.self.inside.mask < 2 ^ c.args.offset =
    rw (← c.self.view_is) at c.requires.above in
    rw (
      set_bit c.self.inside.mask c.args.offset c.requires.offset above,
      c.in_ok-push.ensures.items,
    ) (
      below_all c.self.inside.mask c.args.offset c.requires.offset above,
      grown_count
          c.self.inside.sectors.items c.args.sector c.self.inside.mask c.args.offset above
          c.self.invariant.1,
    )

pub returns : goal.returns
returns c =
    let above : c.self.inside.mask < 2 ^ c.args.offset =
    rw (← c.self.view_is) at c.requires.above in
    rw (← c.self.view_is)
    (rw (
      set_bit c.self.inside.mask c.args.offset c.requires.offset above,
      c.in_ok-push.ensures.items,
    ) refl)
