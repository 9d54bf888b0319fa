-- What the reading of a file's cells finds. The private functions of the reader are tied to these
-- words.
use Rattle.std.specs.Prelude.{◌≡◌, ℕ, ◌+◌, ◌^◌, ◌<◌, ◌==◌, Bool, false, not, List, [], ◌∷◌, ◌++◌, length, Result, Ok, Err}
use Rattle.std.specs.List.{flat_map, AllByRecursion}
use Rattle.record_codec.specs.declared.record.Record.{Record}
use Rattle.record_codec.specs.Record.{HasSpelling, Spells, word_bytes}
use Rattle.journal.specs.Format.{Standing, Holds, NotAJournal as NoJournal, BadRecord as BadAt, BeginsWithCell, StandsFor, front, open_cell, standing_at}
use Rattle.journal.specs.declared.format.TheConstants.{OPEN_GATE}
use Rattle.journal.specs.declared.cells.Found.{Found}
use Rattle.journal.specs.declared.refusal.JournalRefused.{JournalRefused}
use Rattle.journal.specs.declared.refusal.JournalRefused.TheVariants.{DiskFault, NotAJournal, BadRecord, Full, NoMemory}

-- an open gate, the length of a body, the body, and what follows it
pub record IsOpen (cells body behind : List ℕ) : Type 0 where
  pub few : length body < 2 ^ 32
  pub split : cells ≡ (OPEN_GATE ∷ word_bytes (length body) ++ body) ++ behind

-- the cells of these records, each behind an open gate, and what follows them
pub record AreOpen (cells : List ℕ) (records : List Record) (rest : List ℕ) : Type 0 where
  pub spelled : AllByRecursion HasSpelling records
  pub split : cells ≡ flat_map open_cell records ++ rest

-- what cells stand for
pub record StandIn (cells : List ℕ) (standing : Standing) : Type 0 where
  pub records : List Record
  pub rest : List ℕ
  pub open_cells : AreOpen cells records rest
  pub ends : ¬ BeginsWithCell rest
  pub is : standing ≡ standing_at records rest

-- what the reader of cells answers
abbrev pub AreRead : (cells : List ℕ) → Result Found JournalRefused → Type 0
AreRead cells (Ok found) = StandIn cells (Holds found.records.items)
    × (found.end ≡ length (front found.records.items) + 1)
AreRead cells (Err (BadRecord number)) = StandIn cells (BadAt number)
AreRead cells (Err NoMemory) = Unit {0}
AreRead cells (Err NotAJournal) = ⊥
AreRead cells (Err (DiskFault at)) = ⊥
AreRead cells (Err (Full len)) = ⊥

-- what the reader of a file answers
abbrev pub IsFound : (file : List ℕ) → Result Found JournalRefused → Type 0
IsFound file (Ok found) = StandsFor file (Holds found.records.items)
    × (found.end ≡ length (front found.records.items) + 1)
IsFound file (Err NotAJournal) = StandsFor file NoJournal
IsFound file (Err (BadRecord number)) = StandsFor file (BadAt number)
IsFound file (Err NoMemory) = Unit {0}
IsFound file (Err (DiskFault at)) = ⊥
IsFound file (Err (Full len)) = ⊥

-- a closed gate stands here
abbrev pub begins_closed : List ℕ → Bool
begins_closed [] = false
begins_closed (gate ∷ tail) = not (gate == OPEN_GATE)

-- what the reader of one body answers, behind so many records
abbrev pub IsRecordRead : (body : List ℕ) (before : ℕ) → Result Record JournalRefused → Type 0
IsRecordRead body before (Ok r) = Spells body r
IsRecordRead body before (Err (BadRecord number)) =
    (number ≡ before + 1) × ((r : Record) → ¬ Spells body r)
IsRecordRead body before (Err NoMemory) = Unit {0}
IsRecordRead body before (Err NotAJournal) = ⊥
IsRecordRead body before (Err (DiskFault at)) = ⊥
IsRecordRead body before (Err (Full len)) = ⊥
