use Rattle.std.proofs.Common.{◌∙◌, ap, get_or}
use Rattle.edge_traits.proofs.Spans.{span_copied}
use Rattle.edge_traits.proofs.overlay.copy_span.Goals as goal

pub returns : goal.returns
returns c = λ offset within.
    ap (λ xs. get_or xs offset 0) c.write_over.ensures
    ∙ span_copied c.args.span.now c.args.from.now c.args.to.now _ _ c.requires c.min-first.ensures
    c.min.ensures offset within
