-- What opening a journal answers, and what it leaves.
use Rattle.std.specs.Prelude.{◌≡◌, ◌⊎◌, ℕ, ◌+◌, ◌%◌, ◌<◌, ◌≤◌, nat_le, if◌then◌else◌, List, [], ◌∷◌, ◌++◌, length, take, Option, Some, None, option_map, IfSome}
use Rattle.std.specs.List.{AllByRecursion}
use Rattle.basics.specs.Faults.{HasRisen}
use Rattle.edge_traits.specs.Disk.{DiskContents, DiskState, IsImage, WhereTold, after_sync, settled}
use Rattle.record_codec.specs.declared.record.Record.{Record}
use Rattle.record_codec.specs.Record.{HasSpelling}
use Rattle.journal.specs.Format.{Standing, Holds, NotAJournal as NoJournal, BadRecord as BadAt, StandsFor, StandsAs, front}
use Rattle.journal.specs.declared.cells.Found.{Found}
use Rattle.journal.specs.declared.format.TheConstants.{MAGIC, CLOSED_GATE, EMPTY_BYTES, MAX_BYTES, PIECE_BYTES}
use Rattle.journal.specs.declared.refusal.JournalRefused.{JournalRefused}
use Rattle.journal.specs.declared.refusal.JournalRefused.TheVariants.{DiskFault, NotAJournal, BadRecord, Full, NoMemory}

-- the file of a journal without records
abbrev pub empty_file : List ℕ
empty_file = MAGIC ++ CLOSED_GATE ∷ []

-- what opening leaves of a file with these records: a short one is begun anew, any other is cut
-- right behind its first closed gate
abbrev pub reopened : List Record → (file : List ℕ) → List ℕ
reopened records file = if nat_le (length file) EMPTY_BYTES then empty_file
    else take (length (front records) + 1) file

-- what a read gave is one of the images from before, and has these records
pub record IsOpenedAs (c : DiskContents) (records : List Record) (now : Option DiskContents)
    : Type 0 where
  pub possible : IsImage c c.bytes
  pub stands : StandsFor c.bytes (Holds records)
  pub left : now ≡ Some (settled (reopened records c.bytes))

-- what an opening leaves that is Ok, of a journal with these records
pub record Opens (old : DiskState) (records : List Record) (new : DiskState) : Type 0 where
  pub faults : new.faults ≡ old.faults
  pub told : IfSome old.contents (λ c. IsOpenedAs c records new.contents)
  pub untold : old.contents ≡ None → new.contents ≡ None

-- each image after the refusal stands for what an earlier one stood for
abbrev pub KeepsStanding : (old new : DiskContents) → Type 0
KeepsStanding old new = (image : List ℕ) → IsImage new image
    → (earlier : List ℕ) × IsImage old earlier × StandsAs image earlier

-- nothing was done but the first sync
abbrev pub IsOnlySynced : (old new : DiskState) → Type 0
IsOnlySynced old new =
    new ≡ record { contents = option_map after_sync old.contents; faults = old.faults }

-- or that sync failed
abbrev pub IsSyncedOrNot : (old new : DiskState) → Type 0
IsSyncedOrNot old new = (new.contents ≡ old.contents)
    ⊎ ((new.contents ≡ option_map after_sync old.contents)
    × IfSome old.contents (λ c. IsImage c c.bytes))

-- the file was found to be such, and was left as it was
abbrev pub IsFoundAs : Standing → (old new : DiskState) → Type 0
IsFoundAs standing old new =
    IsOnlySynced old new × IfSome old.contents (λ c. StandsFor c.bytes standing)

-- the offset that a failed opening tells: of a piece that was read, of the cut or the write, or for
-- a sync the length by then, as far as it was known
abbrev pub IsFaultOffset : (at : ℕ) → Type 0
IsFaultOffset at = (at ≡ 0) ⊎ (((at < MAX_BYTES) × (at % PIECE_BYTES ≡ 0))
    ⊎ ((records : List Record) × (at ≡ length (front records) + 1) × (at ≤ MAX_BYTES)))

-- the same where the disk tells its file
abbrev pub IsOpenOffset : (at : ℕ) → DiskContents → Type 0
IsOpenOffset at c = (at ≡ 0) ⊎ (((at < length c.bytes) × (at % PIECE_BYTES ≡ 0))
    ⊎ ((records : List Record) × StandsFor c.bytes (Holds records)
    × (at ≡ length (front records) + 1)))

pub record FaultsAt (at : ℕ) (old new : DiskState) : Type 0 where
  pub rises : HasRisen old.faults new.faults
  pub offset : IsFaultOffset at
  pub told_offset : IfSome old.contents (IsOpenOffset at)
  -- nothing is written before all of the file was read and holds records
  pub file : IsSyncedOrNot old new
      ⊎ IfSome old.contents (λ c. (records : List Record) × StandsFor c.bytes (Holds records))

-- what each refusal says, and what it leaves
abbrev pub SaysWhy : JournalRefused → (old new : DiskState) → Type 0
SaysWhy (DiskFault at) old new = FaultsAt at old new
SaysWhy NotAJournal old new = IsFoundAs NoJournal old new
SaysWhy (BadRecord number) old new = IsFoundAs (BadAt number) old new
SaysWhy (Full len) old new = ⊥
SaysWhy NoMemory old new = IsOnlySynced old new

pub record Refuses (why : JournalRefused) (old new : DiskState) : Type 0 where
  pub cause : SaysWhy why old new
  pub images : WhereTold KeepsStanding old.contents new.contents

-- the records that were found have spellings, and the file that they need isn't too long
pub record IsWhole (found : Found) : Type 0 where
  pub spelled : AllByRecursion HasSpelling found.records.items
  pub long : found.end ≡ length (front found.records.items) + 1
  pub small : found.end ≤ MAX_BYTES
