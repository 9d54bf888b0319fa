-- What a run makes of its input: which lines it answers, what it writes of the replies, and what it
-- leaves. Each line that was read has its reply where a later read fails, so that a client which
-- waits for a reply before it sends its next line doesn't wait in vain (see `EndsFor`). Where the
-- journal refused a record, the line at work has no reply, and the records before that one stand.
use Rattle.std.specs.Prelude.{◌≡◌, ◌≢◌, ◌⊎◌, ℕ, ◌+◌, ◌<◌, ◌≤◌, All, List, [], ◌∷◌, ◌++◌, ◌-◌, length, take, drop, Option, Err, Some, None, IfSome, IsSome, IsTrue}
use Rattle.std.specs.List.{flat_map}
use Rattle.std.specs.Io.KnownBytes.{Appends, Consumes, IsAtEnd}
use Rattle.basics.specs.Prefix.{IsPrefix}
use Rattle.fleet.specs.Fleet.{FleetGoesOn}
use Rattle.fleet.specs.Sound.{AllAreIn}
use Rattle.answers.specs.Answer.{Answer, answer_line}
use Rattle.fleet_commands.specs.Logs.{log_named}
use Rattle.migrate_server.specs.Sources.{log_after}
use Rattle.migrate_server.specs.Line.{lines_of, ended_lines, requests_among, AsksToQuit}
use Rattle.migrate_server.specs.Session.{State, state_of, Session, LineIsCut, AllComplete}
use Rattle.migrate_server.specs.World.{Server, Desk}
use Rattle.record_codec.specs.declared.record.Record.{Record}
use Rattle.journal.specs.Journal.{full_refusal}
use Rattle.migrate_server.specs.declared.reader.TheConstants.{INPUT_LIMIT}
use Rattle.answers.specs.declared.refusal.Refusal.TheVariants.{Volume}
use Rattle.migrate_server.specs.declared.status.Status.{Status}
use Rattle.migrate_server.specs.declared.status.Status.TheVariants.{Ok, Usage, ReadFault, JournalFault, WriteFault, StrangeJournal, InputLimit, JournalFull, NoMemory}

-- how many bytes were taken of the source: one past the limit where that ended the run
abbrev pub TakesFor : Status → (taken : List ℕ) → Type 0
TakesFor InputLimit taken = length taken ≡ INPUT_LIMIT + 1
TakesFor _ taken = length taken ≤ INPUT_LIMIT

-- no line asks to quit
abbrev pub NoneQuits : List (List ℕ) → Type 0
NoneQuits lines = All (λ line. AsksToQuit line → ⊥) lines

-- no line but the last asks to quit
abbrev pub QuitsLast : List (List ℕ) → Type 0
QuitsLast lines = NoneQuits (take (length lines - 1) lines)

-- a run goes no further than a line that asks to quit: it ends with it, or in its reply
abbrev pub QuitsFor : Status → (lines : List (List ℕ)) (unwritten : List ℕ) → Type 0
QuitsFor Ok lines unwritten = QuitsLast lines
QuitsFor Usage lines unwritten = ⊥
QuitsFor ReadFault lines unwritten = NoneQuits lines
QuitsFor JournalFault lines unwritten = NoneQuits lines
QuitsFor WriteFault lines unwritten = QuitsLast lines
QuitsFor (StrangeJournal _) lines unwritten = ⊥
QuitsFor InputLimit lines unwritten = NoneQuits lines
QuitsFor JournalFull lines unwritten = NoneQuits lines
QuitsFor NoMemory lines unwritten =
    NoneQuits lines ⊎ (QuitsLast lines × (0 < length unwritten))

-- the last line asks to quit
abbrev pub EndsByQuit : List (List ℕ) → Type 0
EndsByQuit lines = (before : List (List ℕ)) × (line : List ℕ)
    × (lines ≡ before ++ line ∷ []) × AsksToQuit line

-- which lines were served. With `Ok` all of the input, or those up to the first that asks to quit;
-- the source may have given bytes behind that one, which have no effect. Where the source failed or
-- went on past the limit, each whose LF was read before that. Where the sink failed, those up to
-- the one whose reply it failed at. Where the journal took a record no more, those before the line
-- at work, of which `CutFor` tells. Where memory ran out in a line, that was not served, or its
-- reply isn't written
abbrev pub ComesTo : Status → (left_after : Option (List ℕ)) (taken : List ℕ)
    (lines more : List (List ℕ)) (unwritten : List ℕ) → Type 0
ComesTo Ok left_after taken lines more unwritten =
    ((more ≡ []) × IsAtEnd left_after) ⊎ EndsByQuit lines
ComesTo Usage left_after taken lines more unwritten = ⊥
ComesTo ReadFault left_after taken lines more unwritten = lines ≡ ended_lines taken
ComesTo JournalFault left_after taken lines more unwritten = 0 < length more
ComesTo WriteFault left_after taken lines more unwritten = Unit {0}
ComesTo (StrangeJournal _) left_after taken lines more unwritten = ⊥
ComesTo InputLimit left_after taken lines more unwritten =
    lines ≡ ended_lines (take INPUT_LIMIT taken)
ComesTo JournalFull left_after taken lines more unwritten = 0 < length more
ComesTo NoMemory left_after taken lines more unwritten =
    (taken ≡ []) ⊎ (0 < length more) ⊎ (0 < length unwritten)

-- the bytes are what the last reply has behind its first ones
pub record EndsLast (first : ℕ) (replies : List Answer) (unwritten : List ℕ) : Type 0 where
  pub before : List Answer
  pub last : Answer
  pub is_last : replies ≡ before ++ last ∷ []
  pub within : first ≤ length (answer_line last)
  pub rest : unwritten ≡ drop first (answer_line last)

-- what isn't written of the replies: where the sink failed, a rest of the last one; where memory
-- ran out, nothing or all of the last one; and else nothing
abbrev pub LeavesFor : Status → List Answer → (unwritten : List ℕ) → Type 0
LeavesFor Ok replies unwritten = unwritten ≡ []
LeavesFor Usage replies unwritten = ⊥
LeavesFor ReadFault replies unwritten = unwritten ≡ []
LeavesFor JournalFault replies unwritten = unwritten ≡ []
LeavesFor WriteFault replies unwritten = (first : ℕ) × EndsLast first replies unwritten
LeavesFor (StrangeJournal _) replies unwritten = ⊥
LeavesFor InputLimit replies unwritten = unwritten ≡ []
LeavesFor JournalFull replies unwritten = unwritten ≡ []
LeavesFor NoMemory replies unwritten = (unwritten ≡ []) ⊎ EndsLast 0 replies unwritten

-- the line at work is the first that wasn't served: it was cut short, with these records left
abbrev pub CutsNext : (more : List (List ℕ)) → (left : List Record) → (mid new : State) → Type 0
CutsNext more left mid new = (line : List ℕ) × (behind : List (List ℕ))
    × (more ≡ line ∷ behind) × LineIsCut line left mid new

-- what came of the records of the line at work, behind what the lines with answers left. After a
-- fault of the journal's disk the first of those that are left, for which there was room, may stand
-- too, or not
abbrev pub CutFor : Status → (more : List (List ℕ)) → (mid : State) → (new : Server) → Type 0
CutFor JournalFault more mid new = (at : ℕ) × (r : Record) × (left : List Record)
    × CutsNext more (r ∷ left) mid (state_of new)
    × (new.journal.failure ≡ Some (record { at = at; refused = r }))
    × (full_refusal r new.journal ≡ None)
CutFor JournalFull more mid new = (r : Record) × (left : List Record)
    × CutsNext more (r ∷ left) mid (state_of new)
    × IsSome (full_refusal r new.journal) × (new.journal.failure ≡ None)
CutFor NoMemory more mid new = ((state_of new ≡ mid)
    ⊎ ((left : List Record) × CutsNext more left mid (state_of new)))
    × (new.journal.failure ≡ None)
CutFor _ more mid new = (state_of new ≡ mid) × (new.journal.failure ≡ None)

pub record Serves (old new : Desk) (status : Status) : Type 0 where
  -- the bytes that were taken of the source, and those that would come behind them
  pub taken : List ℕ
  pub rest : List ℕ
  pub takes : Consumes old.source.left new.source.left taken
  pub whole : IfSome old.source.left (λ bytes. bytes ≡ taken ++ rest)
  pub count : TakesFor status taken
  -- the lines that were served, and those that were not
  pub lines : List (List ℕ)
  pub more : List (List ℕ)
  pub all_lines : lines_of (taken ++ rest) ≡ lines ++ more
  -- the answers to them, what these leave, and what the line at work leaves of that
  pub replies : List Answer
  pub mid : State
  pub session : Session (state_of old.server) (requests_among lines) replies mid
  pub cut : CutFor status more mid new.server
  pub complete : IsSome old.server.store.volumes
      → AllComplete (requests_among lines) replies (state_of new.server)
  -- each log has besides what it had just the entries of the commands that weren't refused
  pub only_writes : (name : List ℕ) → log_named name new.server.fleet
      ≡ log_after name (log_named name old.server.fleet) (requests_among lines) replies
  -- no host and no machine is lost or changed, and each log only grows
  pub goes_on : FleetGoesOn old.server.fleet new.server.fleet
  pub all_in : AllAreIn old.server.fleet → AllAreIn new.server.fleet
  -- no record is lost
  pub kept : IsPrefix old.server.journal.records new.server.journal.records
  pub no_volume : IsTrue old.server.store.sound → All (λ reply. reply ≢ Err Volume) replies
  -- the bytes that were written, and those that were not
  pub written : List ℕ
  pub unwritten : List ℕ
  pub appends : Appends old.sink.held new.sink.held written
  pub all_bytes : written ++ unwritten ≡ flat_map answer_line replies
  -- how far it came
  pub quits : QuitsFor status lines unwritten
  pub comes_to : ComesTo status new.source.left taken lines more unwritten
  pub leaves : LeavesFor status replies unwritten
