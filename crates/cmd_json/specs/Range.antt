-- A number in a range, with both of its ends.
use Rattle.std.specs.Prelude.{ℕ, ◌≤◌}

abbrev pub IsWithin : (low high number : ℕ) → Type 0
IsWithin low high number = (low ≤ number) × (number ≤ high)
