-- What a sink is to whoever puts bytes into it.
use Rattle.std.specs.Prelude.{ℕ, ◌≤◌, List, length, take, Option}
use Rattle.std.specs.Io.KnownBytes.{Appends}

pub record SinkState : Type 0 where
  -- the bytes that it was given; a sink outside, as a file, doesn't tell them, and one that tells
  -- them goes on telling them
  pub held : Option (List ℕ)
  -- how often it has failed, a count that ends at 2^64 - 1
  pub faults : ℕ

-- the first bytes of those given were appended, and no others
abbrev pub AppendsPrefix : (old new : Option (List ℕ)) (bytes : List ℕ) → Type 0
AppendsPrefix old new bytes = (n : ℕ) × (n ≤ length bytes) × Appends old new (take n bytes)
