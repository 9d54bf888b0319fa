-- What becomes of one line, and the ways in which it or the whole input stops. A line's records are
-- kept before its reply is put: one whose records aren't all kept has no reply.
use Rattle.std.specs.Prelude.{◌≡◌, ℕ, ◌⊎◌, List, [], Bool, true, false, Option, Some, None, Result, Ok, Err}
use Rattle.std.specs.List.{AllByRecursion}
use Rattle.std.specs.Io.KnownBytes.{Appends}
use Rattle.edge_traits.specs.Sink.{SinkState, AppendsPrefix}
use Rattle.basics.specs.Faults.{HasRisen}
use Rattle.answers.specs.Answer.{Answer, answer_line}
use Rattle.cmd_json.specs.declared.command.Command.{Command}
use Rattle.cmd_json.specs.declared.command.Command.TheVariants.{Move, Host, Vm, Enable, Write, Snapshot, Remove, Query, Read, Power, Reset, Inventory, Plan, Start, Run, Cutover, Cancel, Status as PlanStatus, Target, Digest, Restart, Quit}
use Rattle.fleet.specs.Fleet.{FleetState}
use Rattle.journal.specs.Journal.{JournalState, outcomes}
use Rattle.record_keeping.specs.Keeping.{IsUnfailed, KeepsFront}
use Rattle.record_keeping.specs.declared.refusal.NotKept.{NotKept}
use Rattle.record_keeping.specs.declared.refusal.NotKept.TheVariants.{Fault as DiskFault, Full, NoMemory}
use Rattle.record_codec.specs.declared.record.Record.{Record}
use Rattle.ctl_state.specs.Value.{CtlValue}
use Rattle.restart.specs.Standing.{AreTaken}
use Rattle.migrate_server.specs.Line.{is_blank, AsksFor, AsksToQuit}
use Rattle.migrate_server.specs.Session.{State, state_of, HasRefusal, records_of, Step, LineAnswers}
use Rattle.migrate_server.specs.World.{Server}
use Rattle.migrate_server.specs.declared.line.Line.{Line}
use Rattle.migrate_server.specs.declared.line.Line.TheVariants.{Blank, Asks}
use Rattle.migrate_server.specs.declared.reader.NoLine.{NoLine}
use Rattle.migrate_server.specs.declared.reader.NoLine.TheVariants.{Fault as LineFault, Limit, NoMemory as NoLineMemory}
use Rattle.migrate_server.specs.declared.serve.NoReply.{NoReply}
use Rattle.migrate_server.specs.declared.serve.NoReply.TheVariants.{Fault, Unkept}
use Rattle.migrate_server.specs.declared.serve.NotPut.{NotPut}
use Rattle.migrate_server.specs.declared.serve.NotPut.TheVariants.{Fault as PutFault, NoMemory as NoPutMemory}
use Rattle.migrate_server.specs.declared.serve.Stop.{Stop}
use Rattle.migrate_server.specs.declared.serve.Stop.TheVariants.{ReadFault, JournalFault, WriteFault, InputLimit, JournalFull, NoMemory as NoServingMemory}
use Rattle.migrate_server.specs.declared.status.Status.{Status}
use Rattle.migrate_server.specs.declared.status.Status.TheVariants.{Ok as Served, ReadFault as EndsReadFault, JournalFault as EndsJournalFault, WriteFault as EndsWriteFault, InputLimit as EndsInputLimit, JournalFull as EndsJournalFull, NoMemory as EndsNoMemory}

-- a controller that is reopened over the fleet takes these records
abbrev pub WouldBeTaken : FleetState → List Record → Type 0
WouldBeTaken fleet records = (v : CtlValue) × AreTaken fleet records v

-- and whatever may stand on the journal's disk: its records, and after a fault those and the one
-- whose append failed
abbrev pub AllWouldBeTaken : FleetState → JournalState → Type 0
AllWouldBeTaken fleet journal = AllByRecursion (WouldBeTaken fleet) (outcomes journal)

-- the command goes by what the journal's records come to
abbrev pub is_on_plans : Command → Bool
is_on_plans (Plan name vms interval) = true
is_on_plans (Start plan) = true
is_on_plans (Cutover plan at) = true
is_on_plans PlanStatus = true
is_on_plans (Move name sectors writes) = false
is_on_plans (Host name limit) = false
is_on_plans (Vm name host disks) = false
is_on_plans (Enable vm) = false
is_on_plans (Write vm disk first count fill) = false
is_on_plans (Snapshot vm) = false
is_on_plans (Remove vm snapshot) = false
is_on_plans (Query vm snapshot disk since start) = false
is_on_plans (Read vm disk first count snapshot) = false
is_on_plans (Power vm on) = false
is_on_plans (Reset vm disk) = false
is_on_plans Inventory = false
is_on_plans (Run at workers guests disturb) = false
is_on_plans (Cancel vm) = false
is_on_plans (Target volume first count) = false
is_on_plans (Digest volume) = false
is_on_plans Restart = false
is_on_plans Quit = false

-- ---- a command that has no answer

-- nothing refuses it, but its records weren't all kept, and nothing else was done of it
pub record StopsKeeping (command : Command) (why : NotKept) (old new : Server) : Type 0 where
  pub allowed : HasRefusal command None (state_of old)
  pub front : KeepsFront why (records_of command (state_of old)) old.journal new.journal
  pub kept : new ≡ record old { journal = new.journal }

-- the same, or memory ran out before anything was done
abbrev pub IsUnanswered : Command → NotKept → (old new : Server) → Type 0
IsUnanswered command why old new =
    ((why ≡ NoMemory) × (new ≡ old)) ⊎ StopsKeeping command why old new

-- ---- a line

-- a line that means this has this answer, or none where it is blank
abbrev pub IsAnswered : Line → Option Answer → (old new : State) → Type 0
IsAnswered what None old new = (what ≡ Blank) × (new ≡ old)
IsAnswered what (Some answer) old new = LineAnswers what answer old new

-- a line that means this has no answer
abbrev pub IsStopped : Line → NotKept → (old new : Server) → Type 0
IsStopped (Asks command) why old new = IsUnanswered command why old new
IsStopped _ why old new = (why ≡ NoMemory) × (new ≡ old)

-- a blank line has no reply, and each other line has one
abbrev pub HasReply : (line : List ℕ) → Option Answer → (old new : State) → Type 0
HasReply line None old new = (is_blank line ≡ true) × (new ≡ old)
HasReply line (Some answer) old new = (is_blank line ≡ false) × Step line answer old new

abbrev pub bytes_of_reply : Option Answer → List ℕ
bytes_of_reply None = []
bytes_of_reply (Some answer) = answer_line answer

-- the line ends the session, or doesn't
abbrev pub TellsQuit : Bool → (line : List ℕ) → Type 0
TellsQuit true line = AsksToQuit line
TellsQuit false line = AsksToQuit line → ⊥

-- the line was answered, and its reply written
pub record ServesLine (line : List ℕ) (sink sink_after : SinkState) (old new : Server)
    : Type 0 where
  pub reply : Option Answer
  pub answers : HasReply line reply (state_of old) (state_of new)
  pub unfailed : IsUnfailed old.journal new.journal
  pub written : Appends sink.held sink_after.held (bytes_of_reply reply)
  pub steady : sink_after.faults ≡ sink.faults

-- the line was answered, and the sink failed at its reply
pub record FailsInReply (line : List ℕ) (sink sink_after : SinkState) (old new : Server)
    : Type 0 where
  pub reply : Answer
  pub answers : HasReply line (Some reply) (state_of old) (state_of new)
  pub unfailed : IsUnfailed old.journal new.journal
  pub part : AppendsPrefix sink.held sink_after.held (answer_line reply)
  pub rises : HasRisen sink.faults sink_after.faults

-- the line was answered, but for its reply there was no memory
pub record LacksMemory (line : List ℕ) (old new : Server) : Type 0 where
  pub reply : Answer
  pub answers : HasReply line (Some reply) (state_of old) (state_of new)
  pub unfailed : IsUnfailed old.journal new.journal

-- the line's command has no answer
pub record LineStops (line : List ℕ) (why : NotKept) (old new : Server) : Type 0 where
  pub command : Command
  pub asks : AsksFor line command
  pub stops : StopsKeeping command why old new

-- memory ran out before the line did anything, or before its reply was written; or its records
-- weren't all kept
abbrev pub StopsBeforeReply : NotKept → (line : List ℕ) (sink sink_after : SinkState)
    (old new : Server) → Type 0
StopsBeforeReply why line sink sink_after old new = (sink_after ≡ sink)
    × (((why ≡ NoMemory) × ((new ≡ old) ⊎ LacksMemory line old new))
    ⊎ LineStops line why old new)

-- why a line has no reply, or not a whole one
abbrev pub LacksReply : NoReply → (line : List ℕ) (sink sink_after : SinkState)
    (old new : Server) → Type 0
LacksReply Fault line sink sink_after old new = FailsInReply line sink sink_after old new
LacksReply (Unkept why) line sink sink_after old new =
    StopsBeforeReply why line sink sink_after old new

-- why a line has no reply where its answer wasn't put
abbrev pub no_reply_unput : NotPut → NoReply
no_reply_unput PutFault = Fault
no_reply_unput NoPutMemory = Unkept NoMemory

-- what a sink has of these bytes that were to be put
abbrev pub LacksBytes : NotPut → (bytes : List ℕ) (sink sink_after : SinkState) → Type 0
LacksBytes PutFault bytes sink sink_after =
    AppendsPrefix sink.held sink_after.held bytes × HasRisen sink.faults sink_after.faults
LacksBytes NoPutMemory bytes sink sink_after = sink_after ≡ sink

-- ---- the whole input

-- why the serving of an input stops where no line comes, or a line has no reply
abbrev pub stop_without_line : NoLine → Stop
stop_without_line LineFault = ReadFault
stop_without_line Limit = InputLimit
stop_without_line NoLineMemory = NoServingMemory

abbrev pub stop_unkept : NotKept → Stop
stop_unkept DiskFault = JournalFault
stop_unkept Full = JournalFull
stop_unkept NoMemory = NoServingMemory

abbrev pub stop_without_reply : NoReply → Stop
stop_without_reply Fault = WriteFault
stop_without_reply (Unkept why) = stop_unkept why

-- the status of a run whose input was served so
abbrev pub status_served : Result (Unit {0}) Stop → Status
status_served (Ok _) = Served
status_served (Err ReadFault) = EndsReadFault
status_served (Err JournalFault) = EndsJournalFault
status_served (Err WriteFault) = EndsWriteFault
status_served (Err InputLimit) = EndsInputLimit
status_served (Err JournalFull) = EndsJournalFull
status_served (Err NoServingMemory) = EndsNoMemory
