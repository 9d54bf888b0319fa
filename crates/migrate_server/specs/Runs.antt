-- A run of the server without words: it opens the controller over the journal's disk, and serves
-- lines over it; or the controller isn't opened, and no line is served. What stands on that disk at
-- the end of a run is what the next one needs of it, so that a chain of runs, with a crash behind
-- any of them, is one induction.
use Rattle.std.specs.Prelude.{◌≡◌, ◌⊎◌, ℕ, ◌≤◌, List, [], ◌∷◌, length, None, IsSome, IfSome}
use Rattle.std.specs.List.{AllByRecursion}
use Rattle.basics.specs.Prefix.{IsPrefix}
use Rattle.edge_traits.specs.Disk.{IsCrashOf, settled}
use Rattle.journal.specs.Journal.{JournalState, IsKept, LeavesOneOf, outcomes}
use Rattle.journal.specs.Laws.{IsOneOf}
use Rattle.journal.specs.declared.format.TheConstants.{EMPTY_BYTES}
use Rattle.journal.specs.declared.refusal.JournalRefused.{JournalRefused}
use Rattle.journal.specs.declared.refusal.JournalRefused.TheVariants.{DiskFault, NotAJournal, BadRecord, Full, NoMemory as Wanting}
use Rattle.record_codec.specs.declared.record.Record.{Record}
use Rattle.ctl_state.specs.Value.{CtlValue}
use Rattle.restart.specs.Agrees.{Agrees}
use Rattle.restart.specs.Reopening.{Reopens, IsLeft, SaysWhy}
use Rattle.restart.specs.declared.refusal.ReopenRefused.{ReopenRefused}
use Rattle.restart.specs.declared.refusal.ReopenRefused.TheVariants.{Journal, Strange, NoMemory}
use Rattle.fleet.specs.Sound.{IsFleet}
use Rattle.migrate_server.specs.EndsFor.{EndsFor}
use Rattle.migrate_server.specs.Serves.{Serves}
use Rattle.migrate_server.specs.Serve.{WouldBeTaken, AllWouldBeTaken}
use Rattle.migrate_server.specs.World.{World, Desk, with_journal}
use Rattle.migrate_server.specs.declared.status.Status.{Status}
use Rattle.migrate_server.specs.declared.status.Status.TheVariants.{JournalFault, StrangeJournal, JournalFull, NoMemory as EndsNoMemory}

-- ---- one run

-- the status of a run whose journal was refused so. A file that isn't a journal is strange at 0
abbrev pub status_of_journal : JournalRefused → Status
status_of_journal (DiskFault at) = JournalFault
status_of_journal NotAJournal = StrangeJournal 0
status_of_journal (BadRecord number) = StrangeJournal number
status_of_journal (Full len) = JournalFull
status_of_journal Wanting = EndsNoMemory

abbrev pub status_unopened : ReopenRefused → Status
status_unopened (Journal why) = status_of_journal why
status_unopened (Strange number) = StrangeJournal number
status_unopened NoMemory = EndsNoMemory

-- the controller wasn't opened: nothing is read or written but the journal's disk, of which each
-- image stands for what one stood for before
pub record IsUnopened (old new : World) (status : Status) : Type 0 where
  pub refused : ReopenRefused
  pub told : status ≡ status_unopened refused
  pub cause : SaysWhy old.fleet refused old.disk new.disk
  pub left : IsLeft old.fleet old.disk new.disk
  pub kept : new ≡ record old { disk = new.disk }

-- lines were served over this desk, and the journal was closed
pub record Closes (open_desk : Desk) (new : World) (status : Status) : Type 0 where
  pub closed : JournalState
  pub serves : Serves open_desk (with_journal closed new) status
  pub ends : EndsFor open_desk (with_journal closed new) status
  pub disk : new.disk ≡ closed.disk
  -- its file is that of its records, and is as long as they make it
  pub kept : IsKept closed
  -- whatever a crash leaves of the disk has the records that were acknowledged, and after a fault
  -- perhaps the one whose append failed; and these would be taken over the fleet
  pub leaves : LeavesOneOf (outcomes closed) new.disk
  pub taken : AllWouldBeTaken new.fleet closed

-- the controller was opened, with what the records that were found come to, and lines were served
pub record IsServed (old new : World) (status : Status) : Type 0 where
  pub value : CtlValue
  pub opened : JournalState
  pub reopens : Reopens old.fleet old.disk value opened
  pub closes : Closes (with_journal opened old) new status

abbrev pub Runs : (old new : World) (status : Status) → Type 0
Runs old new status = IsUnopened old new status ⊎ IsServed old new status

-- ---- runs one after another

-- whatever a crash leaves of the journal's disk has one of these lists of records, each of which is
-- taken where a controller is reopened over the fleet
pub record HoldsTogether (lists : List (List Record)) (world : World) : Type 0 where
  pub leaves : LeavesOneOf lists world.disk
  pub taken : AllByRecursion (WouldBeTaken world.fleet) lists

-- before the first run: a disk without a byte, or with so few that they are no journal yet, holds
-- together with any fleet
abbrev pub FreshHoldsTogether : Type 0
FreshHoldsTogether = (world : World)
    → IfSome world.disk.contents (λ c. (bytes : List ℕ)
    × (c ≡ settled bytes) × (length bytes ≤ EMPTY_BYTES))
    → HoldsTogether ([] ∷ []) world

-- the records begin with one of these lists
abbrev pub BeginsWithOne : List (List Record) → List Record → Type 0
BeginsWithOne lists records = (found : List Record)
    × IsOneOf found lists × IsPrefix found records

-- a run whose controller isn't opened leaves a world that holds together with the same lists
abbrev pub UnopenedHoldTogether : Type 0
UnopenedHoldTogether = (lists : List (List Record)) (old new : World) (status : Status)
    → HoldsTogether lists old → IsUnopened old new status → HoldsTogether lists new

-- and one that serves lines, with what stands of its journal, which goes on from one of them where
-- the disk tells what it holds
pub record ServesTogether (lists : List (List Record)) (old new : World) (status : Status)
    (s : IsServed old new status) : Type 0 where
  pub together : HoldsTogether (outcomes s.closes.closed) new
  pub go_on : IsSome old.disk.contents
      → AllByRecursion (BeginsWithOne lists) (outcomes s.closes.closed)

abbrev pub ServedHoldTogether : Type 0
ServedHoldTogether = (lists : List (List Record)) (old new : World) (status : Status)
    → HoldsTogether lists old → (s : IsServed old new status)
    → ServesTogether lists old new status s

-- and so does a crash behind it, with the same lists, whatever becomes of all but the fleet
abbrev pub CrashesHoldTogether : Type 0
CrashesHoldTogether = (lists : List (List Record)) (old new : World) → HoldsTogether lists old
    → IsCrashOf old.disk new.disk → new.fleet ≡ old.fleet → HoldsTogether lists new

-- what a run over such a world finds is one of the lists
abbrev pub RunsFindOne : Type 0
RunsFindOne = (lists : List (List Record)) (old new : World) (status : Status)
    → HoldsTogether lists old → IsSome old.disk.contents → (s : IsServed old new status)
    → IsOneOf s.opened.records lists

-- over such a world no journal is strange, where the disk tells what it holds
abbrev pub NoneIsStrange : Type 0
NoneIsStrange = (lists : List (List Record)) (old new : World) (number : ℕ)
    → HoldsTogether lists old → IsSome old.disk.contents
    → Runs old new (StrangeJournal number) → ⊥

-- and its fleet agrees with each of those lists
abbrev pub FleetAgrees : Type 0
FleetAgrees = (lists : List (List Record)) (world : World) → IsFleet world.fleet
    → HoldsTogether lists world
    → AllByRecursion (λ records. Agrees world.fleet records None) lists
