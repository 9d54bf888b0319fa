-- A list that another begins with.
use Rattle.std.specs.Prelude.{◌≡◌, List, length, take}

-- `list` begins with all of `front`, and goes on in any way
abbrev pub IsPrefix : {X : Type 0} → (front list : List X) → Type 0
IsPrefix front list = take (length front) list ≡ front
