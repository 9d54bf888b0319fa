use Rattle.std.proofs.Common.{arith}
use Rattle.record_codec.specs.Record.{word_bytes}
use Rattle.record_codec.proofs.Pieces.{put_step}
use Rattle.record_codec.proofs.puts.put_each_word.Goals as goal

pub loop-number-preserved : goal.loop-number-preserved
loop-number-preserved c = (
  put_step word_bytes c.args.numbers.now c.loop-number.number-index 0 c.args.out.now.items
      c.loop-number.out.items
      c.put_word.new.out.items c.loop-number-test.true c.loop-number.invariant.0
      c.put_word.ensures.items,
  omega arith,
  omega arith,
)
