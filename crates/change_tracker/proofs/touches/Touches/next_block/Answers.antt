use Rattle.std.proofs.Common.{◌<◌, arith}
use Rattle.change_tracker.proofs.AreasIn.{count, none_at_end, block_found}
use Rattle.change_tracker.proofs.touches.Touches.next_block.Goals as goal

pub returns-then-at-capacity-clause-found : goal.returns-then-at-capacity-clause-found
returns-then-at-capacity-clause-found c =
    none_at_end c.args.capacity c.args.at c.args.self.now c.args.window c.ranges.capacity.fits
    c.if-at-capacity.true

pub returns-clause-found : goal.returns-clause-found
returns-clause-found c =
    let inside : c.args.at < c.args.capacity = omega arith in
    block_found c.args.capacity c.args.at c.div_ceil-blocks.result c.args.self.now c.args.window
    c.next_touched.result c.ranges.capacity.fits inside
    (count c.args.capacity c.div_ceil-blocks.result c.div_ceil-blocks.ensures)
    c.next_touched.ensures.found
