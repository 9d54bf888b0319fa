-- What reading a journal's file leaves, before anything of it is repaired. The file is only synced
-- by then, so that whoever doesn't take its records leaves it as it is.
use Rattle.std.specs.Prelude.{◌≡◌, ℕ, ◌≤◌, List, length, None, IfSome, Result, Ok, Err}
use Rattle.std.specs.List.{AllByRecursion}
use Rattle.edge_traits.specs.Disk.{DiskContents, DiskState, IsImage}
use Rattle.record_codec.specs.declared.record.Record.{Record}
use Rattle.record_codec.specs.Record.{HasSpelling}
use Rattle.journal.specs.Format.{Holds, StandsFor}
use Rattle.journal.specs.Journal.{JournalState}
use Rattle.journal.specs.Opening.{IsOnlySynced, IsSyncedOrNot, IsWhole, Refuses}
use Rattle.journal.specs.declared.cells.Found.{Found}
use Rattle.journal.specs.declared.format.TheConstants.{EMPTY_BYTES}
use Rattle.journal.specs.declared.refusal.JournalRefused.{JournalRefused}

pub record UnrepairedState : Type 0 where
  -- the records, in order
  pub records : List Record
  -- the disk before the reading
  pub before : DiskState
  -- and the disk now
  pub disk : DiskState

-- what a read gives was one of the images, and has these records
abbrev pub IsReadAs : (records : List Record) → DiskContents → Type 0
IsReadAs records c = IsImage c c.bytes × StandsFor c.bytes (Holds records)

-- what a reading leaves that is Ok, of a file with these records: nothing was done but the first
-- sync
pub record Reads (old : DiskState) (records : List Record) (new : DiskState) : Type 0 where
  pub synced : IsOnlySynced old new
  pub spelled : AllByRecursion HasSpelling records
  pub told : IfSome old.contents (IsReadAs records)

-- what was found in a file of this length
pub record IsFoundIn (len : ℕ) (found : Found) (old new : DiskState) : Type 0 where
  pub reads : Reads old found.records.items new
  pub whole : IsWhole found
  pub long : IfSome old.contents (λ c. len ≡ length c.bytes)
  pub fresh : len ≤ EMPTY_BYTES → found.end ≡ EMPTY_BYTES

-- what the reading of a disk answers
abbrev pub IsLoaded : (old new : DiskState) → Result (Found × ℕ) JournalRefused → Type 0
IsLoaded old new (Ok (found, len)) = IsFoundIn len found old new
IsLoaded old new (Err why) = Refuses why old new × IsSyncedOrNot old new

-- a journal that was just opened, on this disk
abbrev pub just_opened : Found → (disk : DiskState) → JournalState
just_opened found disk = record {
  records = found.records.items;
  len = found.end;
  failure = None;
  opened = disk.faults;
  disk = disk;
}
