use Rattle.std.proofs.Common.{◌≡◌, ◌||◌, ℕ, take}
use Rattle.std.specs.List.{list_any}
use Rattle.basics.specs.Bits.{has_bit}
use Rattle.change_tracker.specs.Touches.{is_of}
use Rattle.change_tracker.proofs.word.Word.bits_in.Given as goal

-- the blocks of the latest touch, and of the earlier ones so far
abbrev pub invariant-loop-touch : goal.invariant-loop-touch
invariant-loop-touch l = (place : ℕ) → has_bit l.bits place
    ≡ (is_of l.window place l.self.latest || list_any (is_of l.window place)
    (take l.touch-index l.touch-items))
