-- What is left to take goes into what the layer has by now.
use Rattle.std.proofs.Common.{◌≡◌, ℕ, length}
use Rattle.snapshot_chain.specs.Layer.{slot_of, after_taking}
use Rattle.snapshot_chain.proofs.layer.Layer.take_pages.Given as goal

abbrev pub invariant-loop-key : goal.invariant-loop-key
invariant-loop-key l = (block : ℕ)
    → after_taking (slot_of l.other-inside.pages.entries block) (slot_of l.self block)
    ≡ after_taking (slot_of l.fn.other block) (slot_of l.initial.self block)

abbrev pub decreases-loop-key : goal.decreases-loop-key
decreases-loop-key l = length l.other-inside.pages.entries
