-- Why a run ended with its status, once its journal was open. The count of faults of the source, of
-- the sink and of the journal's disk rises exactly with the one status that tells it. So a body
-- can't read on before it has answered a line that it read: where that read fails it has still to
-- put the reply, the put may fail too, and no status has both.
use Rattle.std.specs.Prelude.{◌≡◌, ℕ, ◌⊎◌, List, codes}
use Rattle.std.specs.Io.KnownBytes.{Appends}
use Rattle.edge_traits.specs.Sink.{SinkState, AppendsPrefix}
use Rattle.basics.specs.Faults.{HasRisen}
use Rattle.migrate_server.specs.World.{Desk}
use Rattle.migrate_server.specs.declared.status.Status.{Status}
use Rattle.migrate_server.specs.declared.status.Status.TheVariants.{Ok, Usage, ReadFault, JournalFault, WriteFault, StrangeJournal, InputLimit, JournalFull, NoMemory}

-- the statuses that serving an input can end with
abbrev pub IsServing : Status → Type 0
IsServing Ok = Unit {0}
IsServing Usage = ⊥
IsServing ReadFault = Unit {0}
IsServing JournalFault = Unit {0}
IsServing WriteFault = Unit {0}
IsServing (StrangeJournal _) = ⊥
IsServing InputLimit = Unit {0}
IsServing JournalFull = Unit {0}
IsServing NoMemory = Unit {0}

-- the source's count
abbrev pub ReadsFor : Status → (faults faults_after : ℕ) → Type 0
ReadsFor ReadFault faults faults_after = HasRisen faults faults_after
ReadsFor _ faults faults_after = faults_after ≡ faults

-- the sink's count
abbrev pub PutsFor : Status → (faults faults_after : ℕ) → Type 0
PutsFor WriteFault faults faults_after = HasRisen faults faults_after
PutsFor _ faults faults_after = faults_after ≡ faults

-- that of the journal's disk
abbrev pub KeepsFor : Status → (faults faults_after : ℕ) → Type 0
KeepsFor JournalFault faults faults_after = HasRisen faults faults_after
KeepsFor _ faults faults_after = faults_after ≡ faults

pub record EndsFor (old new : Desk) (status : Status) : Type 0 where
  pub serving : IsServing status
  pub reads : ReadsFor status old.source.faults new.source.faults
  pub puts : PutsFor status old.sink.faults new.sink.faults
  pub keeps : KeepsFor status old.server.journal.disk.faults new.server.journal.disk.faults

abbrev pub usage_line : List ℕ
usage_line = codes "usage: warm_migrate [--limit N] [--rig N]\n"

-- the usage line was written, whole or, where the sink failed, in part
abbrev pub TellsUsage : (old new : SinkState) → Type 0
TellsUsage old new = (Appends old.held new.held usage_line × (new.faults ≡ old.faults))
    ⊎ (AppendsPrefix old.held new.held usage_line × HasRisen old.faults new.faults)
