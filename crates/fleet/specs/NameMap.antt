-- Values under names, as the list of their pairs, in the order in which they were added.
use Rattle.std.specs.Prelude.{ℕ, List, map, slice_get, slice_set, Option, option_map, position, String, string_bytes}
use Rattle.std.specs.Option.{option_map_or}
use Rattle.std.specs.Str.{bytes_eq}

-- each name as its bytes
abbrev pub with_bytes : {Z V : Type 0} → List (String Z × V) → List (List ℕ × V)
with_bytes entries = map (λ entry. (string_bytes entry.0, entry.1)) entries

abbrev pub place_of : {V : Type 0} → (name : List ℕ) → List (List ℕ × V) → Option ℕ
place_of name entries = position (λ entry. bytes_eq name entry.0) entries

abbrev pub value_at : {V : Type 0} → (place : ℕ) → List (List ℕ × V) → Option V
value_at place entries = option_map (λ entry. entry.1) (slice_get entries place)

-- the entries with another value at a place
abbrev pub with_value_at : {V : Type 0} → (place : ℕ) → V → List (List ℕ × V)
    → List (List ℕ × V)
with_value_at place value entries =
    option_map_or (λ entry. slice_set entries place (entry.0, value)) (slice_get entries place)
    entries
