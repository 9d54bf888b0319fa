-- The bits of a number as truth values at their places, of which the lowest is 0.
use Rattle.std.specs.Prelude.{ℕ, ◌==◌, Bool}
use Rattle.std.specs.Int.{bit_at}

-- the bit at a place is set
abbrev pub has_bit : (bits place : ℕ) → Bool
has_bit bits place = bit_at bits place == 1
