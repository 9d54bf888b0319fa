use Rattle.std.proofs.Common.{arith}
use Rattle.record_codec.specs.Parse.{ids_in}
use Rattle.record_codec.proofs.Rows.{ids_push}
use Rattle.record_codec.proofs.variable.identifiers.Goals as goal

pub loop-preserved : goal.loop-preserved
loop-preserved c = (
  ids_push c.args.count c.loop.counter c.loop.ids.items c.push.new.self.items
      (ids_in c.args.count c.args.bytes.now) c.id.result
      c.loop.fields c.id.new.self (omega arith) c.loop.invariant.0 c.in_ok-push.ensures.items
      c.id.ensures.value c.id.ensures.rest,
  omega arith,
)
