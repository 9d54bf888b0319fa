-- What the entries before each place of a log say of its machine: two folds of the log, kept for
-- every place.
use Rattle.std.specs.Prelude.{◌≡◌, ℕ, ◌<◌, ◌||◌, List, length, take, slice_get, false, Some, None}
use Rattle.log_model.specs.declared.entry.Entry.{Entry}
use Rattle.log_model.specs.Entry.{is_enable}
use Rattle.log_model.specs.Legal.{is_enabled}
use Rattle.log_model.specs.Frozen.{last_off, off_after}
use Rattle.log_facts.specs.declared.places.PlaceFacts.{PlaceFacts}

abbrev pub start : PlaceFacts
start = record { enabled = false; last_off = None }

-- behind one entry more, which stands at `place`
abbrev pub place_after : PlaceFacts → (place : ℕ) → Entry → PlaceFacts
place_after facts place e = record {
  enabled = facts.enabled || is_enable e.act;
  last_off = off_after facts.last_off (place, e);
}

-- behind all entries of a log
abbrev pub place_facts : List Entry → PlaceFacts
place_facts log = record { enabled = is_enabled log; last_off = last_off log }

-- at each place of the log stands what the entries before it say
abbrev pub ArePlaces : List Entry → List PlaceFacts → Type 0
ArePlaces log places = (place : ℕ) → place < length log
    → slice_get places place ≡ Some (place_facts (take place log))
