-- A linear congruential generator of 64-bit numbers.
use Rattle.std.specs.Prelude.{ℕ, ◌+◌, ◌*◌, ◌%◌, ◌^◌}
use Rattle.basics.specs.declared.generator.TheConstants.{MULTIPLIER, INCREMENT}

-- the number after x
abbrev pub advance : ℕ → ℕ
advance x = (x * MULTIPLIER + INCREMENT) % 2 ^ 64
