-- The bytes of a journal's file, and what a file stands for. The file is the magic, then a cell for
-- each record behind a gate byte, and a last gate byte that is closed. Nothing behind a closed gate
-- counts, whatever it is: so an append that is cut leaves its record whole or not at all.
use Rattle.std.specs.Prelude.{◌≡◌, ◌≢◌, ◌⊎◌, ℕ, ◌+◌, ◌<◌, ◌≤◌, ◌==◌, if◌then◌else◌, List, [], ◌∷◌, ◌++◌, length, take}
use Rattle.std.specs.List.{flat_map, AllByRecursion}
use Rattle.record_codec.specs.declared.record.Record.{Record}
use Rattle.record_codec.specs.Record.{HasSpelling, spelling, word_bytes}
use Rattle.journal.specs.declared.format.TheConstants.{MAGIC, OPEN_GATE, EMPTY_BYTES, MAX_BYTES}

-- a record's cell: how many bytes its spelling has, in four bytes, big-endian, and the spelling
abbrev pub cell : Record → List ℕ
cell r = word_bytes (length (spelling r)) ++ spelling r

abbrev pub open_cell : Record → List ℕ
open_cell r = OPEN_GATE ∷ cell r

-- the magic and the cells of these records, each behind an open gate
abbrev pub front : List Record → List ℕ
front records = MAGIC ++ flat_map open_cell records

-- what a file stands for: its records, or why it has none
pub data Standing : Type 0 where
  Holds : (records : List Record) → Standing
  NotAJournal : Standing
  BadRecord : (number : ℕ) → Standing

-- a whole cell of a record stands here, behind an open gate
abbrev pub BeginsWithCell : (rest : List ℕ) → Type 0
BeginsWithCell rest =
    (r : Record) × (tail : List ℕ) × HasSpelling r × (rest ≡ open_cell r ++ tail)

-- what a file stands for whose last whole cell is followed by `rest`: a closed gate ends the
-- records; an open one, or the file's end, is a record that isn't whole or is none
abbrev pub standing_at : (records : List Record) (rest : List ℕ) → Standing
standing_at records [] = BadRecord (length records + 1)
standing_at records (gate ∷ tail) =
    if gate == OPEN_GATE then BadRecord (length records + 1) else Holds records

-- the file is the magic, open cells of records as far as there are any, and something else
pub record IsParsed (bytes : List ℕ) (standing : Standing) : Type 0 where
  pub records : List Record
  pub rest : List ℕ
  pub spelled : AllByRecursion HasSpelling records
  pub split : bytes ≡ front records ++ rest
  pub ends : ¬ BeginsWithCell rest
  pub is : standing ≡ standing_at records rest

-- a file of a few bytes is an empty journal: what is there may be left of one whose making was cut.
-- One that is too long or begins otherwise is no journal
pub data StandsFor (bytes : List ℕ) (standing : Standing) : Type 0 where
  Short : length bytes ≤ EMPTY_BYTES → standing ≡ Holds [] → StandsFor bytes standing
  Foreign : EMPTY_BYTES < length bytes
      → (MAX_BYTES < length bytes) ⊎ (take (length MAGIC) bytes ≢ MAGIC)
      → standing ≡ NotAJournal → StandsFor bytes standing
  Parsed : EMPTY_BYTES < length bytes → length bytes ≤ MAX_BYTES → IsParsed bytes standing
      → StandsFor bytes standing

-- one file stands for what another stands for
abbrev pub StandsAs : (one other : List ℕ) → Type 0
StandsAs one other = (standing : Standing) → StandsFor other standing → StandsFor one standing
