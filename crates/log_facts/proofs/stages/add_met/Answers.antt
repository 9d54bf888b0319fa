-- The blocks from that of the first sector on, up to the last that begins before the end.
use Rattle.std.proofs.Common.{◌||◌, ◌≡◌, ◌/◌, ◌+◌, arith, min, ap, ◌∙◌, nat_cmp, ltb, leb, ◌&&◌, refl}
use Rattle.std.specs.BTreeSet.{contains}
use Rattle.log_facts.proofs.StageLemmas.{met_between, below_end}
use Rattle.log_facts.proofs.stages.add_met.Goals as goal

pub returns : goal.returns
returns c = λ block.
    let low = c.args.run.first / 128 in
    let end_is : c.min-end.result ≡ min c.args.capacity (c.args.run.first + c.args.run.count) =
    omega (arith, c.min-end.ensures, c.saturating_add.ensures) in
    c.loop-block.invariant.are block
    ∙ ap (λ x. contains nat_cmp c.args.blocks.now block || x)
    (below_end low block c.loop-block.block c.div_ceil-block-end.result
    (omega (arith, c.loop-block-test.false)) c.loop-block.invariant.upto
    ∙ ap (λ n. leb low block && ltb block n) c.div_ceil-block-end.ensures
    ∙ met_between c.args.capacity c.args.run.first c.args.run.count block low c.min-end.result
    (omega arith) refl end_is)
