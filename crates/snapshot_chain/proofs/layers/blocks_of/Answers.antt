-- The set of the blocks, and its list.
use Rattle.std.proofs.Common.{◌||◌, nat_eq, List, sym, ap, ◌∙◌}
use Rattle.std.specs.List.{list_any}
use Rattle.std.proofs.lemmas.List.{take_all}
use Rattle.std.proofs.lemmas.Map.Keys.{IsStrictlyIncreasing-from_sorted}
use Rattle.snapshot_chain.specs.Layer.{LayerState, has_sector}
use Rattle.snapshot_chain.specs.Layers.{has_found}
use Rattle.sector_model.proofs.Among.{in_set}
use Rattle.snapshot_chain.proofs.Blocks.{has_more}
use Rattle.snapshot_chain.proofs.layers.blocks_of.Goals as goal

pub loop-layer-preserved : goal.loop-layer-preserved
loop-layer-preserved c = λ b.
    c.in_ok-add_blocks.ensures b
    ∙ ap (λ x. x || has_sector c.layer-item.result b) (c.loop-layer.invariant b)
    ∙ sym (has_more c.args.layers.now c.loop-layer.layer-index c.layer-item.result b
    c.loop-layer-test.true c.layer-item.is)

pub returns-clause-ascending : goal.returns-clause-ascending
returns-clause-ascending c =
    rw c.in_ok-list.ensures.keys
    (IsStrictlyIncreasing-from_sorted c.loop-layer.blocks.keys c.in_ok-list.ensures.ordered)

pub returns-clause-members : goal.returns-clause-members
returns-clause-members c = λ b.
    ap (list_any (nat_eq b)) c.in_ok-list.ensures.keys ∙ in_set c.loop-layer.blocks.keys b
    ∙ c.loop-layer.invariant b
    ∙ ap (λ (ls : List LayerState). has_found ls b)
    (take_all c.loop-layer.layer-index c.args.layers.now c.loop-layer-test.false)
