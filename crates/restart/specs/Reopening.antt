-- What reopening a controller answers, and what it leaves of the journal's disk. The file is
-- written only once its records are taken, so that a journal of strange records is left as it was.
use Rattle.std.specs.Prelude.{◌≡◌, ◌⊎◌, ℕ, List, None, IfSome}
use Rattle.edge_traits.specs.Disk.{DiskState, WhereTold}
use Rattle.record_codec.specs.declared.record.Record.{Record}
use Rattle.journal.specs.Journal.{JournalState, IsKept, LeavesOneOf, outcomes}
use Rattle.journal.specs.Opening.{Opens, IsOnlySynced, IsSyncedOrNot, KeepsStanding, SaysWhy as JournalSaysWhy}
use Rattle.journal.specs.Unrepaired.{IsReadAs, Reads}
use Rattle.journal.specs.declared.refusal.JournalRefused.{JournalRefused}
use Rattle.journal.specs.declared.refusal.JournalRefused.TheVariants.{DiskFault, NotAJournal, BadRecord, Full, NoMemory as Wanting}
use Rattle.fleet.specs.Fleet.{FleetState}
use Rattle.ctl_state.specs.Value.{CtlValue}
use Rattle.restart.specs.Standing.{AreTaken, IsStrange}
use Rattle.restart.specs.declared.refusal.ReopenRefused.{ReopenRefused}
use Rattle.restart.specs.declared.refusal.ReopenRefused.TheVariants.{Journal, Strange, NoMemory}

-- ---- where it is Ok

-- a controller of this value and this journal comes of a disk that was so: the journal is open with
-- the records that it had, and these are taken over the fleet
pub record Reopens (fleet : FleetState) (old : DiskState) (value : CtlValue)
    (journal : JournalState) : Type 0 where
  pub taken : AreTaken fleet journal.records value
  pub opened : Opens old journal.records journal.disk
  pub unfailed : journal.failure ≡ None
  pub licence : journal.opened ≡ old.faults
  pub kept : IsKept journal
  pub leaves : LeavesOneOf (outcomes journal) journal.disk

-- ---- where it is refused

-- the file was found to have records that are strange at this number, and was left as it was
pub record IsFoundStrange (fleet : FleetState) (number : ℕ) (old new : DiskState) : Type 0 where
  pub records : List Record
  pub reads : Reads old records new
  pub strange : IsStrange fleet records number

-- what a refusal of the journal says. Want of memory is told by its own name, and nothing is
-- appended that could find no room
abbrev pub JournalSays : JournalRefused → (old new : DiskState) → Type 0
JournalSays (DiskFault at) old new = JournalSaysWhy (DiskFault at) old new
JournalSays NotAJournal old new = JournalSaysWhy NotAJournal old new
JournalSays (BadRecord number) old new = JournalSaysWhy (BadRecord number) old new
JournalSays (Full len) old new = ⊥
JournalSays Wanting old new = ⊥

-- what each refusal says
abbrev pub SaysWhy : FleetState → ReopenRefused → (old new : DiskState) → Type 0
SaysWhy fleet (Journal why) old new = JournalSays why old new
SaysWhy fleet (Strange number) old new = IsFoundStrange fleet number old new
SaysWhy fleet NoMemory old new = IsOnlySynced old new

-- the file has records that are taken
pub record HasTaken (fleet : FleetState) (old : DiskState) : Type 0 where
  pub records : List Record
  pub value : CtlValue
  pub told : IfSome old.contents (IsReadAs records)
  pub taken : AreTaken fleet records value

-- what a refusal leaves: each image stands for what an earlier one stood for, and unless the file
-- has records that are taken, nothing was done but the first sync, or that failed
pub record IsLeft (fleet : FleetState) (old new : DiskState) : Type 0 where
  pub images : WhereTold KeepsStanding old.contents new.contents
  pub file : IsSyncedOrNot old new ⊎ HasTaken fleet old
