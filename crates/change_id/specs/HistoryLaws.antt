-- What holds of every list of happenings: its numbers have no gap, an identifier has one mark, and
-- later entries leave what was before them.
use Rattle.std.specs.Prelude.{◌≡◌, ℕ, ◌+◌, ◌<◌, ◌≤◌, List, ◌++◌, length, take, Some}
use Rattle.change_id.specs.History.{Reading, IsApart, mark, before, through, epoch, number, id_at, mark_of_id, TakesSnapshot, GivesNumber, HasId}
use Rattle.change_id.specs.declared.ChangeId.{ChangeId}

-- the numbers of one epoch are 1, 2 and so on: each of them up to the last is given, and none twice
abbrev pub NumbersHaveNoGap : (E : Type 0) → Type 0
NumbersHaveNoGap E = (reading : Reading E) (n : ℕ) (log : List E)
    → 1 ≤ n → n ≤ number reading log → (place : ℕ) × GivesNumber reading n log place

abbrev pub NumbersDiffer : (E : Type 0) → Type 0
NumbersDiffer E = (reading : Reading E) (n i k : ℕ) (log : List E) → 1 ≤ n
    → GivesNumber reading n log i → GivesNumber reading n log k → i ≡ k

-- the mark of an identifier is the one place of the snapshot that has it
pub record MarksOfIds {E : Type 0} (reading : Reading E) (machine disk : ℕ) (id : ChangeId)
    (log : List E) : Type 0 where
  pub found : (place : ℕ) → HasId reading machine disk id log place
      → mark_of_id reading machine disk id log ≡ Some place
  pub has : (place : ℕ) → mark_of_id reading machine disk id log ≡ Some place
      → HasId reading machine disk id log place
  -- that of a snapshot's identifier is the snapshot's mark
  pub of_snapshot : (s : ℕ) → mark reading.takes s log < length log
      → id_at reading machine disk s log ≡ Some id
      → mark_of_id reading machine disk id log ≡ Some (mark reading.takes s log)
  -- and later entries leave it
  pub stays : (place : ℕ) (more : List E)
      → mark_of_id reading machine disk id log ≡ Some place
      → mark_of_id reading machine disk id (log ++ more) ≡ Some place

abbrev pub IdsHaveOneMark : (E : Type 0) → Type 0
IdsHaveOneMark E = (reading : Reading E) (machine disk : ℕ) (id : ChangeId) (log : List E)
    → IsApart reading → MarksOfIds reading machine disk id log

-- of a snapshot that was taken, later entries leave the mark, what stands up to it and the
-- identifier
pub record LaterKeep {E : Type 0} (reading : Reading E) (s : ℕ) (log more : List E)
    : Type 0 where
  pub mark_stays : mark reading.takes s (log ++ more) ≡ mark reading.takes s log
  pub before_stays : before reading.takes s (log ++ more) ≡ before reading.takes s log
  pub through_stays : through reading.takes s (log ++ more) ≡ through reading.takes s log
  pub id_stays : (machine disk : ℕ)
      → id_at reading machine disk s (log ++ more) ≡ id_at reading machine disk s log

abbrev pub LaterEntriesKeep : (E : Type 0) → Type 0
LaterEntriesKeep E = (reading : Reading E) (s : ℕ) (log more : List E)
    → mark reading.takes s log < length log → LaterKeep reading s log more

-- the entry that takes a snapshot resets nothing, so the epoch is that before it
abbrev pub SnapshotsKeepTheEpoch : (E : Type 0) → Type 0
SnapshotsKeepTheEpoch E = (reading : Reading E) (log : List E) (place : ℕ) → IsApart reading
    → TakesSnapshot reading.is_snap log place
    → epoch reading (take (place + 1) log) ≡ epoch reading (take place log)
