-- Stories: a list of entries, each under the number of the one who added it.
use Rattle.std.specs.Prelude.{◌≡◌, ℕ, ◌==◌, List, length, drop, Bool, nat_lt, if◌then◌else◌}
use Rattle.std.specs.List.{filter}
use Rattle.basics.specs.Prefix.{IsPrefix}

-- of two stories the longer one
abbrev pub longer : {E : Type 0} → (first other : List E) → List E
longer first other = if nat_lt (length first) (length other) then other else first

module _ {E : Type 0} (who : E → ℕ) where
  -- the entry is under this number, whatever entries are here: `who` reads the number of any kind
  -- of them, while `is_by` of log_model reads the one field of an entry of a machine's log
  abbrev pub is_under : (number : ℕ) → E → Bool
  is_under number e = who e == number

  -- the entries under a number that a story has from its place `start` on
  abbrev pub added_by : (number start : ℕ) → (story : List E) → List E
  added_by number start story = filter (is_under number) (drop start story)

  -- the story is the one before and then entries under this number
  abbrev pub AddsUnder : (number : ℕ) → (before story : List E) → Type 0
  AddsUnder number before story =
      IsPrefix before story × (added_by number (length before) story ≡ drop (length before) story)
