use Rattle.std.proofs.Common.{arith}
use Rattle.record_codec.proofs.KindBytes.{none_has}
use Rattle.record_codec.proofs.record.Kind.of.Goals as goal

pub returns-clause-none : goal.returns-clause-none
returns-clause-none c = none_has c.args.byte (λ k within. c.loop-kind.invariant k (omega arith))
