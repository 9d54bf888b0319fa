use Rattle.std.proofs.Common.{◌/◌, length, arith}
use Rattle.std.proofs.lemmas.Grind.{common_steps}
use Rattle.edge_traits.proofs.mem_sink.MemSinkSink.put.Goals as goal

pub returns-in-Err-clause-part : goal.returns-in-Err-clause-part
returns-in-Err-clause-part c =
    (length c.args.bytes.now / 2, omega arith, grind (arith, common_steps))
