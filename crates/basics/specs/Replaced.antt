-- A list in which others stand in place of the items from one on: what a write leaves, of bytes,
-- of sectors or of flags. They may reach past its end, and then the list grows.
use Rattle.std.specs.Prelude.{ℕ, ◌+◌, List, ◌++◌, length, take, drop}

-- xs with ys in place of the items from `first` on
abbrev pub replaced : {X : Type 0} → (xs : List X) (first : ℕ) (ys : List X) → List X
replaced xs first ys = take first xs ++ ys ++ drop (first + length ys) xs
