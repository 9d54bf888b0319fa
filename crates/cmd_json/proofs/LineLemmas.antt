-- A line beside the value that is read from it, and its command's name among those that are built.
use Rattle.std.proofs.Common.{◌≡◌, ℕ, Bool, true, false, if◌then◌else◌, ◌||◌, List, [], ◌∷◌, Option, Some, None, Err, Bor, refl, ap, IsUtf8}
use Rattle.std.proofs.lemmas.Str.{IsUtf8-from_is_utf8, is_utf8-from_IsUtf8}
use Rattle.std.proofs.lemmas.Slice.Eq.{bytes_eq-Decides}
use Rattle.std.specs.List.{list_any}
use Rattle.std.specs.Option.{ok_or}
use Rattle.std.specs.Str.{bytes_eq, is_utf8}
use Rattle.serde_json.specs.Read.{read}
use Rattle.cmd_json.specs.Kinds.{result_and_then}
use Rattle.cmd_json.specs.Members.{named}
use Rattle.cmd_json.specs.Line.{command_among, command_of_data, contains, names_of}
use Rattle.cmd_json.specs.declared.refusal.CmdRefused.TheVariants.{Json}

-- a line of UTF-8 asks for what its text does
pub among_text : (built : List (List ℕ)) (line : List ℕ) → IsUtf8 line
    → command_among built line ≡ result_and_then (command_of_data built) (ok_or (read line) Json)
among_text built line utf8 = rw (is_utf8-from_IsUtf8 line utf8) refl

unread_at : (line : List ℕ) (utf8 : Bool) → is_utf8 line ≡ utf8 → (IsUtf8 line → ⊥)
    → (if utf8 then read line else None) ≡ None
unread_at line true is apart = absurd (apart (IsUtf8-from_is_utf8 line is))
unread_at line false is apart = refl

-- a line that isn't UTF-8 is refused
pub among_unread : (built : List (List ℕ)) (line : List ℕ) → (IsUtf8 line → ⊥)
    → command_among built line ≡ Err Json
among_unread built line apart =
    ap (λ value. result_and_then (command_of_data built) (ok_or value Json))
    (unread_at line (is_utf8 line) refl apart)

pub contains-names_of : (names : List (Bor (List ℕ))) (name : List ℕ)
    → list_any (λ other. bytes_eq other.now name) names ≡ contains (names_of names) name
contains-names_of [] name = refl
contains-names_of (other ∷ names) name =
    ap (λ rest. bytes_eq other.now name || rest) (contains-names_of names name)

-- the name isn't that of any of the rows
abbrev pub Misses : {T : Type 0} → (name : List ℕ) → List (List ℕ × T) → Type 0
Misses name [] = Unit {0}
Misses name (row ∷ rows) = (name ≡ row.0 → ⊥) × Misses name rows

missed_row : {T : Type 0} (same : Bool) (name k : List ℕ) (v : T) (rest : Option T)
    → bytes_eq name k ≡ same → (name ≡ k → ⊥)
    → rest ≡ None → (if same then Some v else rest) ≡ None
missed_row true name k v rest is apart none =
    absurd (apart ((bytes_eq-Decides name k).0 is))
missed_row false name k v rest is apart none = none

pub named-Misses : {T : Type 0} (name : List ℕ) (rows : List (List ℕ × T)) → Misses name rows
    → named name rows ≡ None
named-Misses name [] h = refl
named-Misses name (row ∷ rows) h =
    missed_row _ name row.0 row.1 _ refl h.0 (named-Misses name rows h.1)
