use Rattle.std.proofs.Common.{◌<◌, arith, inl, inr}
use Rattle.change_tracker.proofs.AreasIn.{count, found}
use Rattle.change_tracker.proofs.touches.Touches.next_area.Goals as goal
use Rattle.change_tracker.proofs.touches.Touches.next_area.Goals.{then-behind-blocks, else-behind-blocks}

pub returns-clause-found : goal.returns-clause-found
returns-clause-found c =
    let blocks = count c.args.capacity c.div_ceil-blocks.result c.div_ceil-blocks.ensures in
    let first = c.in_ok-block.ensures.found in
    let below : c.in_ok-block.block < c.div_ceil-blocks.result = omega (arith, first.1, blocks) in
    let behind = c.next_untouched-behind.ensures in
    found c.args.capacity c.args.self.now c.args.window c.args.at c.in_ok-block.block
    c.div_ceil-blocks.result c.next_untouched-behind.result c.max-first.result
    c.if-behind-blocks.end c.ranges.capacity.fits first.2 blocks c.max-first.ensures
    first.0 below behind.from behind.within behind.touched behind.found
    (elim c.if-behind-blocks.branch [
      | then-behind-blocks w ↦ inl (w.if-behind-blocks.true, w.end-is)
      | else-behind-blocks w ↦
          inr (w.if-behind-blocks.false, w.end-is)
    ])
