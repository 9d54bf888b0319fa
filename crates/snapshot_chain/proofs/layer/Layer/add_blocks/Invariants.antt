-- The blocks of the pages so far, of which each has a sector.
use Rattle.std.proofs.Common.{◌≡◌, ℕ, nat_cmp, nat_eq, ◌||◌, ◌&&◌}
use Rattle.std.specs.BTreeSet.{contains}
use Rattle.std.specs.List.{list_any}
use Rattle.snapshot_chain.specs.Layer.{key_of, has_sector}
use Rattle.snapshot_chain.proofs.layer.Layer.add_blocks.Given as goal

abbrev pub invariant-loop-key : goal.invariant-loop-key
invariant-loop-key l = (b : ℕ)
    → contains nat_cmp l.blocks b
    ≡ (contains nat_cmp l.initial.blocks b || list_any
    (λ e. nat_eq (key_of b) e.0.now && has_sector l.self b) l.yielded)
