use Rattle.std.proofs.Common.{arith, sym}
use Rattle.edge_traits.proofs.Spans.{one_span_more}
use Rattle.edge_traits.proofs.overlay.copy_spans.Goals as goal

pub loop-span-preserved : goal.loop-span-preserved
loop-span-preserved c = λ offset within.
    one_span_more c.args.spans.now c.loop-span.span-index _ offset _ _ _ _ (omega arith)
    (c.loop-span.invariant offset within) (c.copy_span.ensures offset within)
