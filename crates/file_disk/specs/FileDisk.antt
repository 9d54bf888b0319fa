-- A disk that is a file: the file, and the count of its errors.
use Rattle.std.specs.Prelude.{ℕ}

pub record FileDiskState (F : Type 0) : Type 0 where
  pub file : F
  -- how many calls failed, a count that ends at 2^64 - 1
  pub faults : ℕ
