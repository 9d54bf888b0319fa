-- What names a turn, and what a turn stands for.
use Rattle.std.specs.Prelude.{◌≡◌, ℕ, List, ◌∷◌, length}
use Rattle.atomic_table.specs.Seated.{TableId}
use Rattle.turn_lock.specs.declared.view.TurnState.{TurnState}

-- the identity of a table, as a list of numbers
abbrev pub name_of : TableId → List ℕ
name_of z = z.words ∷ z.slots ∷ z.views_name ∷ z.atom ∷ z.block ∷ z.offset ∷ z.slot_names

-- the words are the numbers drawn, the tickets drawn and the tickets served, and the slot has the
-- value
abbrev pub IsLockTable : TableId → Type 0
IsLockTable z = (z.words ≡ 3) × (z.slots ≡ 1)

abbrev pub turn_state : {X F E : Type 0} → (X → F) → (X → List E) → TableId → X → TurnState F
turn_state frame story z x = record { name = name_of z; frame = frame x; start = length (story x) }
