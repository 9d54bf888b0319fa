use Rattle.std.proofs.Common.{◌*◌, ◌<◌, take, get_or, refl, subst, sym, ap, ◌∙◌, arith}
use Rattle.sector_model.specs.Run.{with_run, areas_of, AreSpaced}
use Rattle.sector_model.proofs.RunsOf.{areas-none, areas-more}
use Rattle.sector_model.proofs.Spacing.{areas_of-spaced}
use Rattle.sector_model.proofs.run.Runs.from_blocks.Goals as goal

pub loop-block-init : goal.loop-block-init
loop-block-init c = c.new-runs.ensures.items ∙ areas-none c.args.capacity

pub loop-block-preserved : goal.loop-block-preserved
loop-block-preserved c =
    let i = c.loop-block.block-index in
    let blocks = c.args.blocks.now in
    let b = get_or blocks i 0 in
    let below : 128 * b < c.args.capacity = c.requires.begin_below i 0 (omega arith) in
    c.in_ok-append.ensures.ok
    ∙ ap (λ rs. with_run rs (128 * b) c.min-count.result) c.loop-block.invariant
    ∙ ap (λ k. with_run (areas_of c.args.capacity (take i blocks)) (128 * b) k) c.min-count.ensures
    ∙ areas-more blocks i b c.args.capacity c.requires.ascending (omega arith) refl below

pub invariant_of-result : goal.invariant_of-result
invariant_of-result c =
    subst AreSpaced (sym c.loop-block.invariant)
    (areas_of-spaced c.args.capacity (take c.loop-block.block-index c.args.blocks.now)
    (omega arith)).spaced
