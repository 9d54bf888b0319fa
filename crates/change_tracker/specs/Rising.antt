-- Touches in the order in which they came, so that those of a window lie next to each other.
use Rattle.std.specs.Prelude.{ℕ, ◌+◌, ◌≤◌, List, [], ◌∷◌}
use Rattle.change_tracker.specs.declared.word.Touch.{Touch}

-- each after more freezes than the one before it, from one number of freezes on, and before another
abbrev pub AreRising : (from bound : ℕ) → List Touch → Type 0
AreRising from bound [] = from ≤ bound
AreRising from bound (touch ∷ rest) =
    (from ≤ touch.freezes) × AreRising (touch.freezes + 1) bound rest
