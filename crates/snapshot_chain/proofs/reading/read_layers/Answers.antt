-- Block by block.
use Rattle.std.proofs.Common.{◌≡◌, ℕ, ◌+◌, ◌-◌, ◌*◌, ◌/◌, ◌%◌, ◌<◌, ◌≤◌, length, drop, refl, arith, length-take, length-drop}
use Rattle.snapshot_chain.proofs.LayersRead.{block_more, one_block_more, length-put_mid}
use Rattle.snapshot_chain.proofs.reading.read_layers.Goals as goal

pub loop-block-preserved : goal.loop-block-preserved
loop-block-preserved g c =
    let a : ℕ = c.max-from.result - c.args.first in
    let n : ℕ = c.max-from.result - c.args.first + c.min-count.result -
    (c.max-from.result - c.args.first) in
    let low : c.args.first / 128 ≤ c.loop-block.block = omega (arith, c.loop-block.auto.block) in
    let high : 128 * c.loop-block.block < c.args.first + length c.args.buf.now + 128 =
    omega (arith, c.loop-block-test.true, c.div_ceil-block-end.ensures) in
    let fits : a + n ≤ length c.loop-block.buf =
    omega (arith, c.loop-block.auto.buf, c.max-from.ensures, c.min-count.ensures, high) in
    let long : length c.read_block.new.buf ≡ n =
    omega (
      arith,
      c.read_block.auto.buf,
      fits,
      length-take n (drop a c.loop-block.buf),
      length-drop a c.loop-block.buf,
    ) in
    record {
      read = λ k less now. block_more c.args.layers.now c.args.first c.loop-block.block
          c.max-from.result (c.max-from.result % 128) c.min-count.result a n k c.loop-block.buf
          c.read_block.new.buf
          c.max-from.ensures refl (rw c.loop-block.auto.buf c.min-count.ensures) refl (omega arith)
          fits low (rw c.loop-block.auto.buf high) long
          (λ j inside. c.read_block.ensures.sectors j
          (omega (arith, inside, c.read_block.auto.buf))) c.loop-block.invariant.read
          (omega (
            arith,
            less,
            length-put_mid a n c.loop-block.buf c.read_block.new.buf fits
                long,
          )) now;
      counted = omega (arith, c.read_block.ensures.counted, c.loop-block.invariant.counted);
      cost = omega (
        arith,
        c.read_block.ensures.cost,
        c.loop-block.invariant.cost,
        one_block_more
            (length c.args.layers.now) c.loop-block.block (c.args.first / 128) low,
      );
    }
