-- What a source is to whoever reads from it.
use Rattle.std.specs.Prelude.{ℕ, List, Option}

pub record SourceState : Type 0 where
  -- the bytes that it has still to give; a source outside, as a file, doesn't tell them, and one
  -- that tells them goes on telling them
  pub left : Option (List ℕ)
  -- how often it has failed, a count that ends at 2^64 - 1
  pub faults : ℕ
