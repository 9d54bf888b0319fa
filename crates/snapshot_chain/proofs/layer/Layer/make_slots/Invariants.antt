-- Each block of the other layer so far has its slot.
use Rattle.std.proofs.Common.{◌≡◌, ℕ, IsSome}
use Rattle.std.specs.List.{All}
use Rattle.snapshot_chain.specs.Layer.{key_of, slot_of, AddsSlots}
use Rattle.snapshot_chain.proofs.layer.Layer.make_slots.Given as goal

abbrev pub invariant-loop-key : goal.invariant-loop-key
invariant-loop-key l = record {
  made : All (λ e. (b : ℕ) → key_of b ≡ e.0.now → IsSome (slot_of l.self b)) l.yielded;
  added : AddsSlots l.other l.initial.self l.self;
}
