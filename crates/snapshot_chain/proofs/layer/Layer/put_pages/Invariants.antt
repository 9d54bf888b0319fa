-- What is left to put stands over what the layer has by now.
use Rattle.std.proofs.Common.{◌≡◌, ℕ, length}
use Rattle.std.specs.Option.{option_or}
use Rattle.snapshot_chain.specs.Layer.{slot_of, KeepsSlots}
use Rattle.snapshot_chain.proofs.layer.Layer.put_pages.Given as goal

abbrev pub invariant-loop-key : goal.invariant-loop-key
invariant-loop-key l = record {
  slots : KeepsSlots l.pages-inside.pages.entries l.self;
  each : (block : ℕ) → option_or (slot_of l.pages-inside.pages.entries block) (slot_of l.self block)
      ≡ option_or (slot_of l.fn.pages block) (slot_of l.initial.self block);
}

abbrev pub decreases-loop-key : goal.decreases-loop-key
decreases-loop-key l = length l.pages-inside.pages.entries
