use Rattle.std.proofs.Common.{arith}
use Rattle.record_codec.specs.Parse.{words_in}
use Rattle.record_codec.proofs.Rows.{words_push}
use Rattle.record_codec.proofs.variable.words.Goals as goal

pub loop-preserved : goal.loop-preserved
loop-preserved c = (
  words_push c.args.count c.loop.counter c.loop.words.items c.push.new.self.items
      (words_in c.args.count c.args.bytes.now) c.word.result
      c.loop.fields c.word.new.self (omega arith) c.loop.invariant.0 c.in_ok-push.ensures.items
      c.word.ensures.value c.word.ensures.rest,
  omega arith,
)
