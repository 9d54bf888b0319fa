-- The blocks of the layers so far.
use Rattle.std.proofs.Common.{◌≡◌, ℕ, take, nat_cmp}
use Rattle.std.specs.BTreeSet.{contains}
use Rattle.snapshot_chain.specs.Layers.{has_found}
use Rattle.snapshot_chain.proofs.layers.blocks_of.Given as goal

abbrev pub invariant-loop-layer : goal.invariant-loop-layer
invariant-loop-layer l = (b : ℕ)
    → contains nat_cmp l.blocks b ≡ has_found (take l.layer-index l.layers) b
