-- A list of happenings, and what was told on of it: of some of its entries something else, of the
-- others nothing. So a tracker of one disk is told what of a machine's log is of that disk. Where
-- each entry is to the tracking what was told of it is, both lists say the same, at places of their
-- own.
use Rattle.std.specs.Prelude.{◌≡◌, ℕ, ◌<◌, ◌↔◌, List, length, take, drop, Bool, false, Option, Some, None, option_map}
use Rattle.std.specs.List.{filter_map}
use Rattle.change_id.specs.History.{Reading}
use Rattle.change_id.specs.History as history
use Rattle.change_id.specs.declared.ChangeId.{ChangeId}
use Rattle.change_id.specs.declared.Since.{Since}

-- the test of what was told, false where nothing was
abbrev pub passes : {F : Type 0} → (test : F → Bool) → Option F → Bool
passes test None = false
passes test (Some x) = test x

-- an entry is to the outer reading what that which `to` gives of it is to the inner one, and
-- nothing where it gives none
pub record ReadsAs {E F : Type 0} (to : E → Option F) (outer : Reading E) (inner : Reading F)
    : Type 0 where
  pub is_snap : (e : E) → outer.is_snap e ≡ passes inner.is_snap (to e)
  pub takes : (snapshot : ℕ) (e : E)
      → outer.takes snapshot e ≡ passes (inner.takes snapshot) (to e)
  pub resets : (e : E) → outer.resets e ≡ passes inner.resets (to e)
  pub enables : (e : E) → outer.enables e ≡ passes inner.enables (to e)

-- the reading of a list by what is told of its entries: each telling has this one
abbrev pub reading_through : {E F : Type 0} → (to : E → Option F) → Reading F → Reading E
reading_through to inner = record {
  is_snap = λ e. passes inner.is_snap (to e);
  takes = λ snapshot e. passes (inner.takes snapshot) (to e);
  resets = λ e. passes inner.resets (to e);
  enables = λ e. passes inner.enables (to e);
}

abbrev pub TellingsAreRead : (E F : Type 0) → Type 0
TellingsAreRead E F = (to : E → Option F) (inner : Reading F)
    → ReadsAs to (reading_through to inner) inner

-- the place in what was told that a place of the list has: how much was told before it
abbrev pub place_in : {E F : Type 0} → (to : E → Option F) (place : ℕ) → List E → ℕ
place_in to place log = length (filter_map to (take place log))

-- what the list says and what was told of it are the same
pub record ReadTheSame {E F : Type 0} (to : E → Option F) (outer : Reading E) (inner : Reading F)
    (log : List E) : Type 0 where
  -- the list up to a place, and between two
  pub upto : (place : ℕ)
      → filter_map to (take place log) ≡ take (place_in to place log) (filter_map to log)
  pub between : (from end : ℕ) → filter_map to (drop from (take end log))
      ≡ drop (place_in to from log) (take (place_in to end log) (filter_map to log))
  pub epoch : history.epoch outer log ≡ history.epoch inner (filter_map to log)
  pub counted : history.counted outer log ≡ history.counted inner (filter_map to log)
  pub number : history.number outer log ≡ history.number inner (filter_map to log)
  pub in_force : (machine disk : ℕ) → history.in_force outer machine disk log
      ≡ history.in_force inner machine disk (filter_map to log)
  -- of each snapshot, whether or not it was taken
  pub taken : (snapshot : ℕ) → (history.mark outer.takes snapshot log < length log)
      ↔ (history.mark inner.takes snapshot (filter_map to log) < length (filter_map to log))
  pub mark : (snapshot : ℕ) → place_in to (history.mark outer.takes snapshot log) log
      ≡ history.mark inner.takes snapshot (filter_map to log)
  pub id_at : (machine disk snapshot : ℕ) → history.id_at outer machine disk snapshot log
      ≡ history.id_at inner machine disk snapshot (filter_map to log)
  -- of each identifier, whether or not one has it
  pub accepts : (machine disk snapshot : ℕ) (id : ChangeId)
      → history.accepts outer machine disk snapshot id log
      ≡ history.accepts inner machine disk snapshot id (filter_map to log)
  pub mark_of_id : (machine disk : ℕ) (id : ChangeId)
      → option_map (λ place. place_in to place log) (history.mark_of_id outer machine disk id log)
      ≡ history.mark_of_id inner machine disk id (filter_map to log)

abbrev pub FilteredListsReadTheSame : (E F : Type 0) → Type 0
FilteredListsReadTheSame E F = (to : E → Option F) (outer : Reading E) (inner : Reading F)
    (log : List E) → ReadsAs to outer inner → ReadTheSame to outer inner log

-- and so are the answers to a query, where what changed between two places of the list is what
-- changed between their places in what was told
abbrev pub FilteredListsAnswerTheSame : (E F A : Type 0) → Type 0
FilteredListsAnswerTheSame E F A = (to : E → Option F) (outer : Reading E) (inner : Reading F)
    (log : List E) → ReadsAs to outer inner
    → (outer_between inner_between : (from end : ℕ) → A)
    → ((from end : ℕ) → outer_between from end
    ≡ inner_between (place_in to from log) (place_in to end log))
    → (machine disk snapshot : ℕ) (since : Since)
    → history.answered outer machine disk snapshot outer_between since log
    ≡ history.answered inner machine disk snapshot inner_between since (filter_map to log)
