-- What a journal stands for, and what an append leaves of that.
use Rattle.std.specs.Prelude.{◌≡◌, ◌≢◌, ◌⊎◌, ℕ, ◌+◌, ◌-◌, ◌≤◌, nat_lt, if◌then◌else◌, List, [], ◌∷◌, ◌++◌, length, take, Option, Some, None, option_map, IfSome, Result, Ok, Err}
use Rattle.std.specs.List.{AllByRecursion}
use Rattle.basics.specs.Faults.{HasRisen}
use Rattle.edge_traits.specs.Disk.{DiskContents, DiskState, IsImage, settled}
use Rattle.record_codec.specs.declared.record.Record.{Record}
use Rattle.record_codec.specs.Record.{HasSpelling, spelling}
use Rattle.journal.specs.Format.{Holds, StandsFor, front, cell}
use Rattle.journal.specs.declared.format.TheConstants.{OPEN_GATE, CLOSED_GATE, CELL_BYTES, MAX_BYTES}
use Rattle.journal.specs.declared.refusal.JournalRefused.{JournalRefused}
use Rattle.journal.specs.declared.refusal.JournalRefused.TheVariants.{DiskFault, NotAJournal, BadRecord, Full, NoMemory}

-- the append that failed: the offset that it told, and the record whose append it was
pub record Failure : Type 0 where
  pub at : ℕ
  pub refused : Record

pub record JournalState : Type 0 where
  -- the records, in order, each of which was read at the opening or acknowledged since
  pub records : List Record
  -- the length of the file with them
  pub len : ℕ
  -- after a failure nothing is written any more
  pub failure : Option Failure
  -- how often the disk had failed when it was opened
  pub opened : ℕ
  pub disk : DiskState

-- the lists of records that a crash may leave: these, and after a failure these and the one whose
-- append it was
abbrev pub with_refused : List Record → Option Failure → List (List Record)
with_refused records None = []
with_refused records (Some failure) = (records ++ failure.refused ∷ []) ∷ []

abbrev pub outcomes : JournalState → List (List Record)
outcomes j = j.records ∷ with_refused j.records j.failure

abbrev pub StandsForOneOf : List (List Record) → (image : List ℕ) → Type 0
StandsForOneOf [] image = ⊥
StandsForOneOf (records ∷ others) image =
    StandsFor image (Holds records) ⊎ StandsForOneOf others image

-- whatever a crash leaves of this disk has one of these lists of records, and no torn one
abbrev pub LeavesOneOf : List (List Record) → DiskState → Type 0
LeavesOneOf lists disk = IfSome disk.contents
    (λ c. (image : List ℕ) → IsImage c image → StandsForOneOf lists image)

-- the file of a journal that has not failed is whole, and all of it is on the disk
abbrev pub IsAtRest : (records : List Record) → DiskContents → Type 0
IsAtRest records c =
    (gate : ℕ) × (gate ≢ OPEN_GATE) × (c ≡ settled (front records ++ gate ∷ []))

abbrev pub IsHeldOn : (records : List Record) → Option Failure → DiskContents → Type 0
IsHeldOn records None c = IsAtRest records c
IsHeldOn records (Some failure) c = (image : List ℕ) → IsImage c image
    → StandsForOneOf (records ∷ with_refused records (Some failure)) image

-- a failure is kept only where the disk failed since the opening
abbrev pub IsLicensed : Option Failure → (opened now : ℕ) → Type 0
IsLicensed None opened now = now ≡ opened
IsLicensed (Some failure) opened now = HasRisen opened now

-- what the type of a journal keeps
pub record IsKept (j : JournalState) : Type 0 where
  pub spelled : AllByRecursion HasSpelling j.records
  pub long : j.len ≡ length (front j.records) + 1
  pub small : j.len ≤ MAX_BYTES
  pub licence : IsLicensed j.failure j.opened j.disk.faults
  pub file : IfSome j.disk.contents (IsHeldOn j.records j.failure)

-- why a record isn't taken, but for want of memory and a new fault: an earlier failure, or no room
abbrev pub full_refusal : Record → JournalState → Option JournalRefused
full_refusal r j =
    if nat_lt MAX_BYTES (j.len + CELL_BYTES + length (spelling r)) then Some (Full j.len) else None

abbrev pub refusal_after : Record → JournalState → Option Failure → Option JournalRefused
refusal_after r j None = full_refusal r j
refusal_after r j (Some failure) = Some (DiskFault failure.at)

abbrev pub append_refusal : Record → JournalState → Option JournalRefused
append_refusal r j = refusal_after r j j.failure

-- a file of this length with one record more: the last gate is opened, and a closed one stands
-- behind the record's cell
abbrev pub appended : Record → (len : ℕ) (file : List ℕ) → List ℕ
appended r len file =
    take (len - 1) file ++ OPEN_GATE ∷ (cell r ++ CLOSED_GATE ∷ [])

-- after a record was acknowledged
abbrev pub after_append : Record → JournalState → JournalState
after_append r j = record {
  records = j.records ++ r ∷ [];
  len = j.len + CELL_BYTES + length (spelling r);
  failure = j.failure;
  opened = j.opened;
  disk = record {
    contents = option_map (λ c. settled (appended r j.len c.bytes)) j.disk.contents;
    faults = j.disk.faults;
  };
}

-- what a failed append tells: the offset of its write or of the gate, or for a sync the length by
-- then
abbrev pub IsAppendOffset : Record → JournalState → (at : ℕ) → Type 0
IsAppendOffset r j at =
    (at ≡ j.len) ⊎ ((at ≡ j.len - 1) ⊎ (at ≡ j.len + CELL_BYTES + length (spelling r)))

-- after an append that a fault of the disk cut
pub record FailsAt (r : Record) (at : ℕ) (old new : JournalState) : Type 0 where
  pub offset : IsAppendOffset r old at
  pub kept : new ≡ record old {
    failure = Some (record { at = at; refused = r });
    disk = new.disk;
  }
  pub rises : HasRisen old.disk.faults new.disk.faults
  pub leaves : LeavesOneOf (outcomes new) new.disk

-- what an append answers that nothing refuses
abbrev pub Appends : Record → (old new : JournalState) → Result (Unit {0}) JournalRefused → Type 0
Appends r old new (Ok answer) =
    (new ≡ after_append r old) × LeavesOneOf (outcomes new) new.disk
Appends r old new (Err (DiskFault at)) = FailsAt r at old new
Appends r old new (Err NoMemory) = new ≡ old
Appends r old new (Err NotAJournal) = ⊥
Appends r old new (Err (BadRecord number)) = ⊥
Appends r old new (Err (Full len)) = ⊥
