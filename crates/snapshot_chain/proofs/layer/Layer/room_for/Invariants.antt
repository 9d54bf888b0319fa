-- Each page of the lower layer so far has room.
use Rattle.std.proofs.Common.{◌≡◌, ℕ}
use Rattle.std.specs.List.{All}
use Rattle.snapshot_chain.specs.Layer.{key_of, slot_of, IsOpenAt, IsRoomAt, KeepsSlots}
use Rattle.snapshot_chain.proofs.layer.Layer.room_for.Given as goal

abbrev pub invariant-loop-key : goal.invariant-loop-key
invariant-loop-key l = record {
  made : All (λ e. (b : ℕ) → key_of b ≡ e.0.now
      → IsRoomAt (slot_of l.lower b) (slot_of l.upper b) (slot_of l.room b)) l.yielded;
  open_still : (block : ℕ)
      → IsOpenAt (slot_of l.lower block) (slot_of l.upper block) (slot_of l.room block);
  slots : KeepsSlots l.room l.initial.room;
}
