-- Lines, their answers, and the session that they make.
use Rattle.std.proofs.Common.{◌≡◌, ◌≢◌, ◌⊎◌, ℕ, suc, ◌+◌, ◌-◌, ◌<◌, ◌≤◌, Bool, true, false, cond, not, if◌then◌else◌, ◌==◌, List, [], ◌∷◌, ◌++◌, length, take, drop, Option, Some, None, Result, Ok, Err, inl, inr, refl, sym, ap, subst, append_assoc, ◌∙◌, arith}
use Rattle.std.specs.Prelude.{IfSome, IsTrue, OnOk, OnErr, count_by, nat_le}
use Rattle.std.proofs.KnownBytes.{Appends-nil, Appends-trans, Consumes-nil, Consumes-trans}
use Rattle.std.proofs.lemmas.Bool.{false≢true, true≢false, false_from_ne_true, and_left, eqb-true, lt-leb, le-leb, cond-false}
use Rattle.std.specs.List.{flat_map, list_all}
use Rattle.std.specs.Io.KnownBytes.{Appends, Consumes, IsAtEnd}
use Rattle.std.proofs.lemmas.List.{append-nil, length-append, take-append-drop, take_at}
use Rattle.std.proofs.lemmas.List.Elements.{filter-append, All-head, All-tail, All-cons, All-append, All-take}
use Rattle.std.proofs.lemmas.List.Sums.{sum_by-append, sum_by-cons}
use Rattle.std.proofs.lemmas.Grind.{flat_map-append}
use Rattle.basics.specs.Faults.{Rose, HasRisen}
use Rattle.basics.specs.Prefix.{IsPrefix}
use Rattle.basics.proofs.Prefix.{prefix-self, prefix-appended, prefix-trans}
use Rattle.edge_traits.specs.Source.{SourceState}
use Rattle.fleet.specs.Fleet.{FleetGoesOn}
use Rattle.fleet.specs.Sound.{AllAreIn}
use Rattle.fleet_commands.specs.Logs.{log_named}
use Rattle.journal.specs.Journal.{JournalState}
use Rattle.record_codec.specs.declared.record.Record.{Record}
use Rattle.record_keeping.specs.Keeping.{IsUnfailed, StopsAt}
use Rattle.record_keeping.specs.declared.refusal.NotKept.{NotKept}
use Rattle.record_keeping.specs.declared.refusal.NotKept.TheVariants as kept
use Rattle.target_volume.specs.VolumeStore.{StoreState}
use Rattle.edge_traits.specs.Sink.{SinkState, AppendsPrefix}
use Rattle.migrate_server.specs.declared.line_buffer.LineBuffer.{LineBuffer}
use Rattle.cmd_json.specs.Line.{command_of}
use Rattle.cmd_json.specs.declared.command.Command.{Command}
use Rattle.cmd_json.specs.declared.command.Command.TheVariants.{Quit}
use Rattle.cmd_json.specs.declared.refusal.CmdRefused.{CmdRefused}
use Rattle.migrate_server.specs.declared.line.Line.{Line}
use Rattle.migrate_server.specs.declared.line.Line.TheVariants.{Blank, Asks, Refuses}
use Rattle.migrate_server.specs.declared.reader.TheConstants.{INPUT_LIMIT}
use Rattle.migrate_server.specs.declared.reader.NoLine.{NoLine}
use Rattle.migrate_server.specs.declared.reader.NoLine.TheVariants.{Fault as LineFault, Limit, NoMemory as NoLineMemory}
use Rattle.answers.specs.declared.refusal.Refusal.{Refusal}
use Rattle.answers.specs.declared.refusal.Refusal.TheVariants.{Long}
use Rattle.migrate_server.specs.declared.serve.NoReply.{NoReply}
use Rattle.migrate_server.specs.declared.serve.NoReply.TheVariants.{Fault, Unkept}
use Rattle.migrate_server.specs.declared.serve.NotPut.{NotPut}
use Rattle.migrate_server.specs.declared.serve.NotPut.TheVariants.{Fault as PutFault, NoMemory as NoPutMemory}
use Rattle.migrate_server.specs.declared.status.Status.{Status}
use Rattle.migrate_server.specs.declared.status.Status.TheVariants as status
use Rattle.migrate_server.specs.declared.serve.Stop.{Stop}
use Rattle.migrate_server.specs.declared.serve.Stop.TheVariants.{WriteFault, NoMemory}
use Rattle.migrate_server.specs.EndsFor.{EndsFor, IsServing, KeepsFor, PutsFor, ReadsFor, TellsUsage, usage_line}
use Rattle.migrate_server.specs.declared.line.TheConstants.{LINE_LIMIT}
use Rattle.answers.specs.Answer.{Answer, answer_line}
use Rattle.migrate_server.specs.Line.{AsksToQuit, Means, refused_by, quits, is_space, is_blank, is_lf, lines_of, ended_lines, before_first_line, requests_among}
use Rattle.migrate_server.specs.LineBuffer.{Holds}
use Rattle.migrate_server.specs.Reader.{ReaderState, HasNoLf, IsIdle, TakesLine, TakesEnd, HasNoLine, budget}
use Rattle.migrate_server.specs.Serve.{IsAnswered, IsStopped, HasReply, TellsQuit, ServesLine, FailsInReply, LacksMemory, LineStops, StopsBeforeReply, LacksReply, LacksBytes, no_reply_unput, bytes_of_reply, stop_without_line, stop_unkept, stop_without_reply, status_served}
use Rattle.migrate_server.specs.Serves.{Serves, TakesFor, NoneQuits, QuitsLast, QuitsFor, ComesTo, LeavesFor, CutsNext, CutFor}
use Rattle.migrate_server.specs.Session.{State, state_of, serving, LineIsCut, Session, Step}
use Rattle.migrate_server.specs.World.{Server, Desk}
use Rattle.migrate_server.proofs.Complete.{all_still, session_complete, session_sound, no_volume}
use Rattle.migrate_server.proofs.GoingOn.{session_goes_on, session_keeps_records}
use Rattle.migrate_server.proofs.LogsAfter.{session_log, session_in}
use Rattle.migrate_server.proofs.Meanings.{means_one}

-- ---- one line

refusal_at : (fits : Bool) (read : Result Command CmdRefused) → fits ≡ true
    → (if fits then refused_by read else Some Long) ≡ refused_by read
refusal_at true read h = refl
refusal_at false read h = cc

-- a line that is read as no command is refused so
pub refused_line : (line : List ℕ) (why : CmdRefused) (told : Refusal) → is_blank line ≡ false
    → length line ≤ LINE_LIMIT → command_of line ≡ Err why → refused_by (Err why) ≡ Some told
    → Means line (Refuses told)
refused_line line why told some fits read is = (
  some,
  refusal_at (nat_le (length line) LINE_LIMIT) (command_of line)
      (le-leb (length line) LINE_LIMIT fits) ∙ ap refused_by read ∙ is,
)

refusal_long : (fits : Bool) (read : Result Command CmdRefused) → fits ≡ false
    → (if fits then refused_by read else Some Long) ≡ Some Long
refusal_long true read h = cc
refusal_long false read h = refl

-- a line that is too long is neither blank nor a command
pub long_line : (buffer : LineBuffer) (text : List ℕ) → buffer.is_long ≡ true → Holds buffer text
    → Means text (Refuses Long)
long_line buffer text long (inl held) = let h = held.0 in cc
long_line buffer text long (inr held) =
    let over : nat_le (length text) LINE_LIMIT ≡ false = lt-leb (length text) LINE_LIMIT held.1 in (
      and_left (nat_le (length text) LINE_LIMIT) (list_all is_space text) over,
      refusal_long
          (nat_le (length text) LINE_LIMIT) (command_of text) over,
    )

-- what is known of the buffer's bytes is known of the line
pub short_line : (buffer : LineBuffer) (text : List ℕ) (what : Line) → buffer.is_long ≡ false
    → Means buffer.bytes.items what → Holds buffer text → Means text what
short_line buffer text what short means (inl held) = subst (λ line. Means line what) held.1 means
short_line buffer text what short means (inr long) = let h = long.0 in cc

-- ---- a line that asks to quit

quits_line : (line : List ℕ) (what : Line) → quits what ≡ true → Means line what → AsksToQuit line
quits_line line (Asks Quit) is means = means
quits_line line _ is means = cc

pub tells_quit : (line : List ℕ) (what : Line) (told : Bool) → told ≡ quits what → Means line what
    → TellsQuit told line
tells_quit line what true is means = quits_line line what (sym is) means
tells_quit line what false is means =
    λ asks. false≢true (is ∙ ap quits (means_one line what (Asks Quit) means asks))

-- ---- one line's answer

pub has_reply : (line : List ℕ) (what : Line) (answer : Option Answer) (old new : State)
    → Means line what → IsAnswered what answer old new → HasReply line answer old new
has_reply line what None old new means h = (subst (Means line) h.0 means, h.1)
has_reply line Blank (Some answer) old new means h = absurd h
has_reply line (Asks command) (Some answer) old new means h = (means.some, (Asks command, means, h))
has_reply line (Refuses why) (Some answer) old new means h = (means.0, (Refuses why, means, h))

-- its reply wasn't written, or not whole
pub lacks_reply : (why : NotPut) (line : List ℕ) (answer : Answer) (sink sink_after : SinkState)
    (old new : Server) → HasReply line (Some answer) (state_of old) (state_of new)
    → IsUnfailed old.journal new.journal → LacksBytes why (answer_line answer) sink sink_after
    → LacksReply (no_reply_unput why) line sink sink_after old new
lacks_reply PutFault line answer sink sink_after old new has unfailed part = record {
  reply = answer;
  answers = has;
  unfailed = unfailed;
  part = part.0;
  rises = part.1;
}
lacks_reply NoPutMemory line answer sink sink_after old new has unfailed same =
    (same, inl (refl, inr (record { reply = answer; answers = has; unfailed = unfailed })))

-- it has no answer
pub stopped : (line : List ℕ) (what : Line) (why : NotKept) (sink : SinkState) (old new : Server)
    → Means line what → IsStopped what why old new
    → StopsBeforeReply why line sink sink old new
stopped line Blank why sink old new means h = (refl, inl (h.0, inl h.1))
stopped line (Refuses other) why sink old new means h = (refl, inl (h.0, inl h.1))
stopped line (Asks command) why sink old new means (inl h) = (refl, inl (h.0, inl h.1))
stopped line (Asks command) why sink old new means (inr stops) =
    (refl, inr (record { command = command; asks = means; stops = stops }))

-- ---- the lines of an input

no_lf : (b : ℕ) → b ≢ 10 → (b == 10) ≡ false
no_lf b other = false_from_ne_true (b == 10) (λ e. other (eqb-true b 10 e))

first_byte : (b : ℕ) (text : List ℕ) → HasNoLf (b ∷ text) → b ≢ 10
first_byte b text h = All-head (λ x. x ≢ 10) b text h

later_bytes : (b : ℕ) (text : List ℕ) → HasNoLf (b ∷ text) → HasNoLf text
later_bytes b text h = All-tail (λ x. x ≢ 10) b text h

lf : (text rest : List ℕ) → HasNoLf text → lines_of (text ++ 10 ∷ rest) ≡ text ∷ lines_of rest
lf [] rest h = refl
lf (b ∷ text) rest h =
    cond-false (b == 10) ([] ∷ lines_of (text ++ 10 ∷ rest))
    (before_first_line b (lines_of (text ++ 10 ∷ rest))) (no_lf b (first_byte b text h))
    ∙ ap (before_first_line b) (lf text rest (later_bytes b text h))

alone : (text : List ℕ) → HasNoLf text → 0 < length text → lines_of text ≡ text ∷ []
alone [] h some = absurd (omega (arith, some))
alone (b ∷ []) h some = cond-false (b == 10) ([] ∷ []) ((b ∷ []) ∷ []) (no_lf b (first_byte b [] h))
alone (b ∷ c ∷ text) h some =
    cond-false (b == 10) ([] ∷ lines_of (c ∷ text)) (before_first_line b (lines_of (c ∷ text)))
    (no_lf b (first_byte b (c ∷ text) h))
    ∙ ap (before_first_line b) (alone (c ∷ text) (later_bytes b (c ∷ text) h) (omega arith))

-- bytes have a line
first_is_some : (b : ℕ) (lines : List (List ℕ)) → 0 < length (before_first_line b lines)
first_is_some b [] = omega arith
first_is_some b (line ∷ lines) = omega arith

cond_some : (t : Bool) (xs ys : List (List ℕ)) → 0 < length xs → 0 < length ys
    → 0 < length (if t then xs else ys)
cond_some true xs ys h k = h
cond_some false xs ys h k = k

some_line : (bytes : List ℕ) → 0 < length bytes → 0 < length (lines_of bytes)
some_line [] some = some
some_line (b ∷ bytes) some =
    cond_some (b == 10) ([] ∷ lines_of bytes) (before_first_line b (lines_of bytes)) (omega arith)
    (first_is_some b (lines_of bytes))

abbrev lfs : List ℕ → ℕ
lfs bytes = count_by is_lf bytes

lfs_append : (xs ys : List ℕ) → lfs (xs ++ ys) ≡ lfs xs + lfs ys
lfs_append xs ys = sum_by-append (λ x. cond (is_lf x) 1 0) xs ys

lfs_cons : (b : ℕ) (bytes : List ℕ) → lfs (b ∷ bytes) ≡ cond (b == 10) 1 0 + lfs bytes
lfs_cons b bytes = sum_by-cons (λ x. cond (is_lf x) 1 0) b bytes

one_or_none : (t : Bool) → t ≡ false → ◌≡◌ {A = ℕ} (cond t 1 0) 0
one_or_none true h = cc
one_or_none false h = refl

lfs_none : (text : List ℕ) → HasNoLf text → lfs text ≡ 0
lfs_none [] h = refl
lfs_none (b ∷ text) h =
    let rest = lfs_none text (later_bytes b text h) in
    let front = one_or_none (b == 10) (no_lf b (first_byte b text h)) in
    omega (arith, lfs_cons b text, rest, front)

lfs_line : (text rest : List ℕ) → HasNoLf text → lfs (text ++ 10 ∷ rest) ≡ 1 + lfs rest
lfs_line text rest h = let none = lfs_none text h in
    omega (arith, lfs_append text (10 ∷ rest), lfs_cons 10 rest, none)

-- what stands behind the lines has no LF, so they are those that were ended
ended_whole : (bytes tail : List ℕ) (lines : List (List ℕ))
    → lines_of bytes ≡ lines ++ lines_of tail → lfs bytes ≡ length lines → lines ≡ ended_lines bytes
ended_whole bytes tail lines split count =
    sym (ap (λ n. take n (lines_of bytes)) count ∙ ap (take (length lines)) split
    ∙ take_at lines (lines_of tail) (length lines) refl)

-- these lines were taken
pub record Heard (left left_now : Option (List ℕ)) (reader : ReaderState) (lines : List (List ℕ)) :
    Type 0 where
  pub consumed : List ℕ
  pub consumes : Consumes left left_now consumed
  pub count : reader.total ≡ length consumed
  pub split : (rest : List ℕ) → (reader.ended ≡ true → rest ≡ [])
      → lines_of (consumed ++ rest) ≡ lines ++ lines_of (reader.pending ++ rest)
  pub ends : reader.ended ≡ false → lfs consumed ≡ length lines + lfs reader.pending
  pub idle : IsIdle left_now reader
  pub fits : reader.total ≤ INPUT_LIMIT

abbrev pub fresh_reader : ReaderState
fresh_reader = record { pending = []; total = 0; ended = false }

heard_none : (left : Option (List ℕ)) → Heard left left fresh_reader []
heard_none left = record {
  consumed = [];
  consumes = Consumes-nil left;
  count = refl;
  split = λ rest e. refl;
  ends = λ e. refl;
  idle = λ e. absurd (false≢true e);
  fits = omega arith;
}

no_bytes : (xs ys zs : List ℕ) → xs ≡ [] → ys ≡ [] → 0 < length zs → xs ++ ys ≡ zs → ⊥
no_bytes xs ys zs h k some same =
    let e = sym (ap (length {A = ℕ}) same) ∙ length-append xs ys in
    let f = ap (length {A = ℕ}) h in
    let g = ap (length {A = ℕ}) k in
    omega (arith, e, f, g, some)

line_length : (text rest : List ℕ) → 0 < length (text ++ 10 ∷ rest)
line_length text rest = let e = length-append text (10 ∷ rest) in omega (arith, e)

line_split : (consumed given pending text after rest : List ℕ) (lines : List (List ℕ))
    (ended ended_after : Bool)
    → ((more : List ℕ) → (ended ≡ true → more ≡ [])
    → lines_of (consumed ++ more) ≡ lines ++ lines_of (pending ++ more))
    → (ended ≡ true → pending ≡ []) → (ended ≡ true → given ≡ []) → HasNoLf text
    → (pending ++ given ≡ text ++ 10 ∷ after)
    ⊎ ((pending ++ given ≡ text) × (0 < length text) × (ended_after ≡ true))
    → (ended_after ≡ true → after ≡ []) → (ended_after ≡ true → rest ≡ [])
    → lines_of ((consumed ++ given) ++ rest) ≡ (lines ++ text ∷ []) ++ lines_of (after ++ rest)
line_split consumed given pending text after rest lines ended ended_after split idle none one
    (inl s) idle_after at_end =
    ap lines_of (append_assoc consumed given rest)
    ∙ split (given ++ rest)
    (λ e. absurd (no_bytes pending given (text ++ 10 ∷ after) (idle e) (none e)
    (line_length text after) s))
    ∙ ap (λ l. lines ++ lines_of l) (sym (append_assoc pending given rest) ∙ ap (λ l. l ++ rest) s
    ∙ append_assoc text (10 ∷ after) rest)
    ∙ ap (λ l. lines ++ l) (lf text (after ++ rest) one)
    ∙ sym (append_assoc lines (text ∷ []) (lines_of (after ++ rest)))
line_split consumed given pending text after rest lines ended ended_after split idle none one
    (inr s) idle_after at_end =
    ap lines_of (append_assoc consumed given rest)
    ∙ split (given ++ rest) (λ e. absurd (no_bytes pending given text (idle e) (none e) s.1 s.0))
    ∙ ap (λ l. lines ++ lines_of l) (sym (append_assoc pending given rest) ∙ ap (λ l. l ++ rest) s.0
    ∙ ap (λ l. text ++ l) (at_end s.2) ∙ append-nil text)
    ∙ ap (λ l. lines ++ l) (alone text one s.1)
    ∙ sym (append-nil (lines ++ text ∷ []))
    ∙ ap (λ l. (lines ++ text ∷ []) ++ lines_of l)
    (sym (ap (λ l. l ++ rest) (idle_after s.2) ∙ at_end s.2))

was_running : (ended : Bool) (pending given bytes : List ℕ) → (ended ≡ true → pending ≡ [])
    → (ended ≡ true → given ≡ []) → 0 < length bytes → pending ++ given ≡ bytes → ended ≡ false
was_running false pending given bytes idle none some same = refl
was_running true pending given bytes idle none some same =
    absurd (no_bytes pending given bytes (idle refl) (none refl) some same)

line_ends : (consumed given pending text after : List ℕ) (lines : List (List ℕ))
    (ended ended_after : Bool)
    → (ended ≡ false → lfs consumed ≡ length lines + lfs pending) → (ended ≡ true → pending ≡ [])
    → (ended ≡ true → given ≡ []) → HasNoLf text
    → (pending ++ given ≡ text ++ 10 ∷ after)
    ⊎ ((pending ++ given ≡ text) × (0 < length text) × (ended_after ≡ true))
    → ended_after ≡ false → lfs (consumed ++ given) ≡ length (lines ++ text ∷ []) + lfs after
line_ends consumed given pending text after lines ended ended_after ends idle none one (inl s)
    running =
    let before = ends (was_running ended pending given (text ++ 10 ∷ after) idle none
    (line_length text after) s) in
    let all = sym (lfs_append pending given) ∙ ap lfs s ∙ lfs_line text after one in
    omega (arith, lfs_append consumed given, before, all, length-append lines (text ∷ []))
line_ends consumed given pending text after lines ended ended_after ends idle none one (inr s)
    running = absurd (true≢false (sym s.2 ∙ running))

heard_line : (left : Option (List ℕ)) (a b : SourceState) (old new : ReaderState)
    (buffer : LineBuffer) (lines : List (List ℕ)) → Heard left a.left old lines
    → (t : TakesLine a b old new buffer)
    → Heard left b.left new (lines ++ t.text ∷ [])
heard_line left a b old new buffer lines h t = record {
  consumed = h.consumed ++ t.given;
  consumes = Consumes-trans left a.left b.left h.consumed t.given h.consumes t.takes.whole;
  count = t.takes.count ∙ ap (λ n. n + length t.given) h.count
      ∙ sym (length-append h.consumed t.given);
  split = λ rest e. line_split h.consumed t.given old.pending t.text new.pending rest lines
      old.ended new.ended h.split (λ x. (h.idle x).0) t.takes.none t.one t.split (λ x. (t.idle x).0)
      e;
  ends = λ running. line_ends h.consumed t.given old.pending t.text new.pending lines old.ended
      new.ended h.ends (λ x. (h.idle x).0) t.takes.none t.one t.split running;
  idle = t.idle;
  fits = t.fits;
}

-- ---- what is left of the input

abbrev rest_of : (left left_after : Option (List ℕ)) → List ℕ
rest_of None left_after = []
rest_of (Some bytes) None = []
rest_of (Some bytes) (Some more) = more

rest_whole : (a b : Option (List ℕ)) (taken : List ℕ) → Consumes a b taken
    → IfSome a (λ bytes. bytes ≡ taken ++ rest_of a b)
rest_whole None b taken h = tt
rest_whole (Some bytes) None taken h = absurd h
rest_whole (Some bytes) (Some more) taken h = h

rest_at_end : (a b : Option (List ℕ)) → IsAtEnd b → rest_of a b ≡ []
rest_at_end None b h = refl
rest_at_end (Some bytes) None h = refl
rest_at_end (Some bytes) (Some more) h = h

-- ---- the budget of bytes

falls_by : (total pending given text after limit total_after : ℕ) → total_after ≡ total + given
    → total_after ≤ limit → pending + given ≡ text + suc after
    → (limit + 1 - total_after) + after < (limit + 1 - total) + pending
falls_by total pending given text after limit total_after count fits same =
    omega (arith, count, fits, same)

falls_at_end : (total pending given text after limit total_after : ℕ) → total_after ≡ total + given
    → total_after ≤ limit → pending + given ≡ text → 0 < text → after ≡ 0
    → (limit + 1 - total_after) + after < (limit + 1 - total) + pending
falls_at_end total pending given text after limit total_after count fits same some none =
    omega (arith, count, fits, same, some, none)

budget_falls_by : (left : Option (List ℕ)) (old new : ReaderState) (text given : List ℕ)
    → new.total ≡ old.total + length given → new.total ≤ INPUT_LIMIT
    → (old.pending ++ given ≡ text ++ 10 ∷ new.pending)
    ⊎ ((old.pending ++ given ≡ text) × (0 < length text) × (new.ended ≡ true)) → IsIdle left new
    → budget new < budget old
budget_falls_by left old new text given count fits (inl s) idle =
    let same = sym (length-append old.pending given) ∙ ap (length {A = ℕ}) s
    ∙ length-append text (10 ∷ new.pending) in
    falls_by old.total (length old.pending) (length given) (length text) (length new.pending)
    INPUT_LIMIT new.total count fits same
budget_falls_by left old new text given count fits (inr s) idle =
    let same = sym (length-append old.pending given) ∙ ap (length {A = ℕ}) s.0 in
    let none = ap (length {A = ℕ}) (idle s.2).0 in
    falls_at_end old.total (length old.pending) (length given) (length text) (length new.pending)
    INPUT_LIMIT new.total count fits same s.1 none

pub budget_falls : (a b : SourceState) (old new : ReaderState) (buffer : LineBuffer)
    → TakesLine a b old new buffer → budget new < budget old
budget_falls a b old new buffer t =
    budget_falls_by b.left old new t.text t.given t.takes.count t.fits t.split t.idle

-- ---- the session so far

session_more : (old mid new : State) (lines : List (List ℕ)) (replies : List Answer) (line : List ℕ)
    (reply : Answer) → Session old lines replies mid → Step line reply mid new
    → Session old (lines ++ line ∷ []) (replies ++ reply ∷ []) new
session_more old mid new [] [] line reply h step =
    (new, subst (λ (s : State). Step line reply s new) h step, refl)
session_more old mid new [] (r ∷ replies) line reply h step = absurd h
session_more old mid new (l ∷ lines) [] line reply h step = absurd h
session_more old mid new (l ∷ lines) (r ∷ replies) line reply h step =
    (h.0, h.1, session_more h.0 mid new lines replies line reply h.2 step)

one_blank : (line : List ℕ) → is_blank line ≡ true → requests_among (line ∷ []) ≡ []
one_blank line h = ap (λ t. if (not t) then line ∷ [] else []) h

one_request : (line : List ℕ) → is_blank line ≡ false → requests_among (line ∷ []) ≡ line ∷ []
one_request line h = ap (λ t. if (not t) then line ∷ [] else []) h

requests_more : (lines more : List (List ℕ))
    → requests_among (lines ++ more) ≡ requests_among lines ++ requests_among more
requests_more lines more = filter-append (λ line. not (is_blank line)) lines more

abbrev NoQuit : List ℕ → Type 0
NoQuit line = AsksToQuit line → ⊥

abbrev text_of : List Answer → List ℕ
text_of replies = flat_map answer_line replies

text_more : (replies : List Answer) (reply : Answer)
    → text_of (replies ++ reply ∷ []) ≡ text_of replies ++ answer_line reply
text_more replies reply =
    flat_map-append answer_line replies (reply ∷ [])
    ∙ ap (λ l. text_of replies ++ l) (append-nil (answer_line reply))

-- no line so far asks to quit, and the next one doesn't
none_more : (lines : List (List ℕ)) (text : List ℕ) → NoneQuits lines → (AsksToQuit text → ⊥)
    → NoneQuits (lines ++ text ∷ [])
none_more lines text none goes =
    All-append NoQuit lines (text ∷ []) none
    (All-cons NoQuit text [] goes (λ k d within. absurd (omega arith)))

-- no line so far asks to quit, and the next one is the last
last_more : (lines : List (List ℕ)) (text : List ℕ) → NoneQuits lines
    → QuitsLast (lines ++ text ∷ [])
last_more lines text none =
    let long : length (lines ++ text ∷ []) - 1 ≡ length lines = let e =
    length-append lines (text ∷ []) in omega (arith, e) in
    let front : take (length (lines ++ text ∷ []) - 1) (lines ++ text ∷ []) ≡ lines =
    take_at lines (text ∷ []) (length (lines ++ text ∷ []) - 1) (sym long) in
    subst NoneQuits (sym front) none

all_last : (lines : List (List ℕ)) → NoneQuits lines → QuitsLast lines
all_last lines none = All-take NoQuit (length lines - 1) lines none

-- what was heard, answered, kept and written so far
pub record Progress (old now : Desk) (reader : ReaderState) : Type 0 where
  pub lines : List (List ℕ)
  pub heard : Heard old.source.left now.source.left reader lines
  pub goes_on : NoneQuits lines
  pub replies : List Answer
  pub session : Session (state_of old.server) (requests_among lines) replies (state_of now.server)
  pub written : Appends old.sink.held now.sink.held (text_of replies)
  pub reads : now.source.faults ≡ old.source.faults
  pub puts : now.sink.faults ≡ old.sink.faults
  pub unfailed : IsUnfailed old.server.journal now.server.journal

pub progress_start : (old : Desk) → old.server.journal.failure ≡ None
    → Progress old old fresh_reader
progress_start old unfailed = record {
  lines = [];
  heard = heard_none old.source.left;
  goes_on = λ k d within. absurd (omega arith);
  replies = [];
  session = refl;
  written = Appends-nil old.sink.held;
  reads = refl;
  puts = refl;
  unfailed = record { failure = unfailed; faults = refl };
}

record Replied (lines : List (List ℕ)) (old : State) (sink : SinkState) (new : State)
    (sink_after : SinkState) : Type 0 where
  pub replies : List Answer
  pub session : Session old (requests_among lines) replies new
  pub written : Appends sink.held sink_after.held (text_of replies)

session_reply : (old now after : State) (lines : List (List ℕ)) (replies : List Answer)
    (text : List ℕ) (reply : Answer) → Session old (requests_among lines) replies now
    → HasReply text (Some reply) now after
    → Session old (requests_among (lines ++ text ∷ [])) (replies ++ reply ∷ []) after
session_reply old now after lines replies text reply session answers =
    let same = requests_more lines (text ∷ [])
    ∙ ap (λ l. requests_among lines ++ l) (one_request text answers.0) in
    subst (λ (l : List (List ℕ)). Session old l (replies ++ reply ∷ []) after) (sym same)
    (session_more old now after (requests_among lines) replies text reply session answers.1)

replied_line : (text : List ℕ) (reply : Option Answer) (lines : List (List ℕ))
    (replies : List Answer) (old now after : State) (sink sink_now sink_after : SinkState)
    → Session old (requests_among lines) replies now
    → Appends sink.held sink_now.held (text_of replies) → HasReply text reply now after
    → Appends sink_now.held sink_after.held (bytes_of_reply reply)
    → Replied (lines ++ text ∷ []) old sink after sink_after
replied_line text None lines replies old now after sink sink_now sink_after session written answers
    told = record {
      replies = replies;
      session =
          let same = requests_more lines (text ∷ [])
          ∙ ap (λ l. requests_among lines ++ l) (one_blank text answers.0)
          ∙ append-nil (requests_among lines) in
          subst (λ (s : State). Session old (requests_among (lines ++ text ∷ [])) replies s)
          (sym answers.1)
          (subst (λ (l : List (List ℕ)). Session old l replies now) (sym same) session);
      written = subst (Appends sink.held sink_after.held) (append-nil (text_of replies))
          (Appends-trans sink.held sink_now.held sink_after.held (text_of replies) [] written told);
    }
replied_line text (Some reply) lines replies old now after sink sink_now sink_after session written
    answers told = record {
      replies = replies ++ reply ∷ [];
      session = session_reply old now after lines replies text reply session answers;
      written = subst (Appends sink.held sink_after.held) (sym (text_more replies reply))
          (Appends-trans sink.held sink_now.held sink_after.held (text_of replies)
          (answer_line reply) written told);
    }

-- the journal hasn't failed in the next line either
pub unfailed_further : (first second third : JournalState) → IsUnfailed first second
    → IsUnfailed second third → IsUnfailed first third
unfailed_further first second third h k =
    record { failure = k.failure; faults = k.faults ∙ h.faults }

pub progress_line : (old now after : Desk) (reader reader_after : ReaderState) (buffer : LineBuffer)
    → Progress old now reader → (t : TakesLine now.source after.source reader reader_after buffer)
    → ServesLine t.text now.sink after.sink now.server after.server → TellsQuit false t.text
    → Progress old after reader_after
progress_line old now after reader reader_after buffer p t serves goes =
    let replied = replied_line t.text serves.reply p.lines p.replies (state_of old.server)
    (state_of now.server) (state_of after.server) old.sink now.sink after.sink p.session p.written
    serves.answers serves.written in
    record {
      lines = p.lines ++ t.text ∷ [];
      heard = heard_line old.source.left now.source after.source reader reader_after buffer p.lines
          p.heard t;
      goes_on = none_more p.lines t.text p.goes_on goes;
      replies = replied.replies;
      session = replied.session;
      written = replied.written;
      reads = t.steady ∙ p.reads;
      puts = serves.steady ∙ p.puts;
      unfailed = unfailed_further old.server.journal now.server.journal after.server.journal
          p.unfailed serves.unfailed;
    }

-- ---- what a line that is cut short leaves

-- nothing but records is new
record AddsRecords (mid new : State) : Type 0 where
  pub fleet : new.fleet ≡ mid.fleet
  pub store : new.store ≡ mid.store
  pub records : IsPrefix mid.records new.records

adds_none : (mid new : State) → new ≡ mid → AddsRecords mid new
adds_none mid new same = record {
  fleet = ap (λ (s : State). s.fleet) same;
  store = ap (λ (s : State). s.store) same;
  records = subst (λ (s : State). IsPrefix mid.records s.records) (sym same)
      (prefix-self mid.records);
}

adds_front : (line : List ℕ) (left : List Record) (mid new : State) → LineIsCut line left mid new
    → AddsRecords mid new
adds_front line left mid new h = record {
  fleet = ap (λ (s : State). s.fleet) h.cut.kept;
  store = ap (λ (s : State). s.store) h.cut.kept;
  records = subst (λ (s : State). IsPrefix mid.records s.records) (sym h.cut.kept)
      (prefix-appended mid.records h.cut.front);
}

adds_next : (more : List (List ℕ)) (left : List Record) (mid new : State)
    → CutsNext more left mid new → AddsRecords mid new
adds_next more left mid new h = adds_front h.0 left mid new h.3

cut_adds : (status : Status) (more : List (List ℕ)) (mid : State) (new : Server)
    → CutFor status more mid new → AddsRecords mid (state_of new)
cut_adds status.JournalFault more mid new h = adds_next more (h.1 ∷ h.2) mid (state_of new) h.3
cut_adds status.JournalFull more mid new h = adds_next more (h.0 ∷ h.1) mid (state_of new) h.2
cut_adds status.NoMemory more mid new h = elim h.0 [
  | inl same ↦ adds_none mid (state_of new) same
  | inr cut ↦ adds_next more cut.0 mid (state_of new) cut.1
]
cut_adds _ more mid new h = adds_none mid (state_of new) h.0

-- ---- where it ends

-- what is said of an end beside what follows from the session
record Facts (old new : Desk) (status : Status) : Type 0 where
  pub taken : List ℕ
  pub takes : Consumes old.source.left new.source.left taken
  pub count : TakesFor status taken
  pub lines : List (List ℕ)
  pub more : List (List ℕ)
  pub all_lines : lines_of (taken ++ rest_of old.source.left new.source.left) ≡ lines ++ more
  pub replies : List Answer
  pub mid : State
  pub session : Session (state_of old.server) (requests_among lines) replies mid
  pub cut : CutFor status more mid new.server
  pub written : List ℕ
  pub unwritten : List ℕ
  pub appends : Appends old.sink.held new.sink.held written
  pub all_bytes : written ++ unwritten ≡ text_of replies
  pub quits : QuitsFor status lines unwritten
  pub comes_to : ComesTo status new.source.left taken lines more unwritten
  pub leaves : LeavesFor status replies unwritten

serves_by : (old new : Desk) (status : Status) → Facts old new status → Serves old new status
serves_by old new status f =
    let start = state_of old.server in
    let lines = requests_among f.lines in
    let adds = cut_adds status f.more f.mid new.server f.cut in
    record {
      taken = f.taken;
      rest = rest_of old.source.left new.source.left;
      takes = f.takes;
      whole = rest_whole old.source.left new.source.left f.taken f.takes;
      count = f.count;
      lines = f.lines;
      more = f.more;
      all_lines = f.all_lines;
      replies = f.replies;
      mid = f.mid;
      session = f.session;
      cut = f.cut;
      complete = λ tells. all_still lines f.replies f.mid (state_of new.server) adds.store
          (session_complete start f.mid lines f.replies f.session tells);
      only_writes = λ name. ap (log_named name) adds.fleet
          ∙ session_log start f.mid lines f.replies f.session name;
      goes_on = subst (FleetGoesOn old.server.fleet) (sym adds.fleet)
          (session_goes_on start f.mid lines f.replies f.session);
      all_in = λ are. subst AllAreIn (sym adds.fleet)
          (session_in start f.mid lines f.replies f.session are);
      kept = prefix-trans old.server.journal.records f.mid.records
          new.server.journal.records
          (session_keeps_records start f.mid lines f.replies f.session) adds.records;
      no_volume = λ sound. no_volume start f.mid lines f.replies f.session sound;
      written = f.written;
      unwritten = f.unwritten;
      appends = f.appends;
      all_bytes = f.all_bytes;
      quits = f.quits;
      comes_to = f.comes_to;
      leaves = f.leaves;
    }

-- a run came to its end
pub record Ended (old new : Desk) (status : Result (Unit {0}) Stop) : Type 0 where
  pub serves : Serves old new (status_served status)
  pub ends : EndsFor old new (status_served status)

-- the desk with its source after more was read
abbrev pub read_on : Desk → SourceState → Desk
read_on now source = record now { source = source }

-- no reader could be made
pub ended_at_once : (old : Desk) → old.server.journal.failure ≡ None → Ended old old (Err NoMemory)
ended_at_once old unfailed = record {
  serves = serves_by old old status.NoMemory (record {
    taken = [];
    takes = Consumes-nil old.source.left;
    count = omega arith;
    lines = [];
    more = lines_of (rest_of old.source.left old.source.left);
    all_lines = refl;
    replies = [];
    mid = state_of old.server;
    session = refl;
    cut = (inl refl, unfailed);
    written = [];
    unwritten = [];
    appends = Appends-nil old.sink.held;
    all_bytes = refl;
    comes_to = inl refl;
    quits = inl (λ k d within. absurd (omega arith));
    leaves = inl refl;
  });
  ends = record { serving = tt; reads = refl; puts = refl; keeps = refl };
}

-- the input was served to its end
pub ended_whole_input : (old now : Desk) (source : SourceState) (reader reader_after : ReaderState)
    → Progress old now reader → TakesEnd now.source source reader reader_after
    → Ended old (read_on now source) (Ok tt)
ended_whole_input old now source reader reader_after p t =
    let taken = p.heard.consumed ++ t.given in
    let end = (t.idle t.ended).1 in
    let none = rest_at_end old.source.left source.left end in
    record {
      serves = serves_by old (read_on now source) status.Ok (record {
        taken = taken;
        takes = Consumes-trans old.source.left now.source.left source.left p.heard.consumed t.given
            p.heard.consumes t.takes.whole;
        count = omega (
          arith,
          length-append p.heard.consumed t.given,
          p.heard.count,
          t.takes.count,
          t.fits,
        );
        lines = p.lines;
        more = [];
        all_lines = ap (λ l. lines_of (taken ++ l)) none ∙ ap lines_of (append-nil taken)
            ∙ p.heard.split t.given t.takes.none ∙ ap (λ l. p.lines ++ lines_of l) t.nothing;
        replies = p.replies;
        mid = state_of now.server;
        session = p.session;
        cut = (refl, p.unfailed.failure);
        written = text_of p.replies;
        unwritten = [];
        appends = p.written;
        all_bytes = append-nil (text_of p.replies);
        comes_to = inl (refl, end);
        quits = all_last p.lines p.goes_on;
        leaves = refl;
      });
      ends = record {
        serving = tt;
        reads = t.steady ∙ p.reads;
        puts = p.puts;
        keeps = p.unfailed.faults;
      };
    }

all_heard : (left left_now : Option (List ℕ)) (reader : ReaderState) (lines : List (List ℕ))
    → (h : Heard left left_now reader lines)
    → lines_of (h.consumed ++ rest_of left left_now)
    ≡ lines ++ lines_of (reader.pending ++ rest_of left left_now)
all_heard left left_now reader lines h =
    h.split (rest_of left left_now) (λ e. rest_at_end left left_now (h.idle e).1)

-- a line asked to quit
pub ended_by_quit : (old now after : Desk) (reader reader_after : ReaderState) (buffer : LineBuffer)
    → Progress old now reader → (t : TakesLine now.source after.source reader reader_after buffer)
    → ServesLine t.text now.sink after.sink now.server after.server → TellsQuit true t.text
    → Ended old after (Ok tt)
ended_by_quit old now after reader reader_after buffer p t serves asks =
    let heard = heard_line old.source.left now.source after.source reader reader_after buffer
    p.lines p.heard t in
    let replied = replied_line t.text serves.reply p.lines p.replies (state_of old.server)
    (state_of now.server) (state_of after.server) old.sink now.sink after.sink p.session p.written
    serves.answers serves.written in
    let lines = p.lines ++ t.text ∷ [] in
    record {
      serves = serves_by old after status.Ok (record {
        taken = heard.consumed;
        takes = heard.consumes;
        count = omega (arith, heard.count, heard.fits);
        lines = lines;
        more = lines_of (reader_after.pending ++ rest_of old.source.left after.source.left);
        all_lines = all_heard old.source.left after.source.left reader_after lines heard;
        replies = replied.replies;
        mid = state_of after.server;
        session = replied.session;
        cut = (refl, serves.unfailed.failure);
        written = text_of replied.replies;
        unwritten = [];
        appends = replied.written;
        all_bytes = append-nil (text_of replied.replies);
        comes_to = inr (p.lines, t.text, refl, asks);
        quits = last_more p.lines t.text p.goes_on;
        leaves = refl;
      });
      ends = record {
        serving = tt;
        reads = t.steady ∙ p.reads;
        puts = serves.steady ∙ p.puts;
        keeps = serves.unfailed.faults ∙ p.unfailed.faults;
      };
    }

lines_behind : (left left_now : Option (List ℕ)) (reader : ReaderState) (lines : List (List ℕ))
    (given rest : List ℕ) → (h : Heard left left_now reader lines) → reader.ended ≡ false
    → lines_of ((h.consumed ++ given) ++ rest)
    ≡ lines ++ lines_of (reader.pending ++ (given ++ rest))
lines_behind left left_now reader lines given rest h running =
    ap lines_of (append_assoc h.consumed given rest)
    ∙ h.split (given ++ rest) (λ e. absurd (true≢false (sym e ∙ running)))

-- no LF is in what was read and not taken
all_ended : (left left_now : Option (List ℕ)) (reader : ReaderState) (lines : List (List ℕ))
    (given : List ℕ) → (h : Heard left left_now reader lines) → reader.ended ≡ false
    → HasNoLf (reader.pending ++ given)
    → lines ≡ ended_lines (h.consumed ++ given)
all_ended left left_now reader lines given h running one =
    let none = lfs_none (reader.pending ++ given) one in
    ended_whole (h.consumed ++ given) (reader.pending ++ given) lines
    (h.split given (λ e. absurd (true≢false (sym e ∙ running))))
    (omega (
      arith,
      lfs_append h.consumed given,
      h.ends running,
      lfs_append reader.pending given,
      none,
    ))

-- no line came
pub ended_without_line : (old now : Desk) (source : SourceState) (reader reader_after : ReaderState)
    (why : NoLine) → Progress old now reader → HasNoLine why now.source source reader reader_after
    → Ended old (read_on now source) (Err (stop_without_line why))
ended_without_line old now source reader reader_after LineFault p f =
    let rest = rest_of old.source.left source.left in
    record {
      serves = serves_by old (read_on now source) status.ReadFault (record {
        taken = p.heard.consumed ++ f.given;
        takes = Consumes-trans old.source.left now.source.left source.left p.heard.consumed f.given
            p.heard.consumes f.takes.whole;
        count = omega (
          arith,
          length-append p.heard.consumed f.given,
          p.heard.count,
          f.takes.count,
          f.fits,
        );
        lines = p.lines;
        more = lines_of (reader.pending ++ (f.given ++ rest));
        all_lines = lines_behind old.source.left now.source.left reader p.lines f.given rest p.heard
            f.running;
        replies = p.replies;
        mid = state_of now.server;
        session = p.session;
        cut = (refl, p.unfailed.failure);
        written = text_of p.replies;
        unwritten = [];
        appends = p.written;
        all_bytes = append-nil (text_of p.replies);
        comes_to = all_ended old.source.left now.source.left reader p.lines f.given p.heard
            f.running
            f.one;
        quits = p.goes_on;
        leaves = refl;
      });
      ends = record {
        serving = tt;
        reads = subst (λ (n : ℕ). HasRisen n source.faults) p.reads f.rises;
        puts = p.puts;
        keeps = p.unfailed.faults;
      };
    }
ended_without_line old now source reader reader_after Limit p f =
    let read = p.heard.consumed ++ f.given in
    let given = f.given ++ f.past ∷ [] in
    let taken = p.heard.consumed ++ given in
    let rest = rest_of old.source.left source.left in
    let long : length taken ≡ INPUT_LIMIT + 1 = omega (
      arith,
      length-append p.heard.consumed given,
      p.heard.count,
      f.takes.count,
      f.over,
    ) in
    let front : take INPUT_LIMIT taken ≡ read =
    ap (take INPUT_LIMIT) (sym (append_assoc p.heard.consumed f.given (f.past ∷ [])))
    ∙ take_at read (f.past ∷ []) INPUT_LIMIT (omega (
      arith,
      long,
      length-append p.heard.consumed given,
      length-append f.given (f.past ∷ []),
      length-append p.heard.consumed f.given,
    )) in
    record {
      serves = serves_by old (read_on now source) status.InputLimit (record {
        taken = taken;
        takes = Consumes-trans old.source.left now.source.left source.left p.heard.consumed given
            p.heard.consumes f.takes.whole;
        count = long;
        lines = p.lines;
        more = lines_of (reader.pending ++ (given ++ rest));
        all_lines = lines_behind old.source.left now.source.left reader p.lines given rest p.heard
            f.running;
        replies = p.replies;
        mid = state_of now.server;
        session = p.session;
        cut = (refl, p.unfailed.failure);
        written = text_of p.replies;
        unwritten = [];
        appends = p.written;
        all_bytes = append-nil (text_of p.replies);
        comes_to = all_ended old.source.left now.source.left reader p.lines f.given p.heard
            f.running
            f.one ∙ ap ended_lines (sym front);
        quits = p.goes_on;
        leaves = refl;
      });
      ends = record {
        serving = tt;
        reads = f.steady ∙ p.reads;
        puts = p.puts;
        keeps = p.unfailed.faults;
      };
    }
ended_without_line old now source reader reader_after NoLineMemory p f =
    let rest = rest_of old.source.left source.left in
    let behind = reader.pending ++ (f.given ++ rest) in
    let some : 0 < length behind = omega (
      arith,
      ap (length {A = ℕ}) (append_assoc reader.pending f.given rest),
      length-append (reader.pending ++ f.given) rest,
      f.some,
    ) in
    record {
      serves = serves_by old (read_on now source) status.NoMemory (record {
        taken = p.heard.consumed ++ f.given;
        takes = Consumes-trans old.source.left now.source.left source.left p.heard.consumed f.given
            p.heard.consumes f.takes.whole;
        count = omega (
          arith,
          length-append p.heard.consumed f.given,
          p.heard.count,
          f.takes.count,
          f.fits,
        );
        lines = p.lines;
        more = lines_of behind;
        all_lines = lines_behind old.source.left now.source.left reader p.lines f.given rest p.heard
            f.running;
        replies = p.replies;
        mid = state_of now.server;
        session = p.session;
        cut = (inl refl, p.unfailed.failure);
        written = text_of p.replies;
        unwritten = [];
        appends = p.written;
        all_bytes = append-nil (text_of p.replies);
        comes_to = inr (inl (some_line behind some));
        quits = inl p.goes_on;
        leaves = inl refl;
      });
      ends = record {
        serving = tt;
        reads = f.steady ∙ p.reads;
        puts = p.puts;
        keeps = p.unfailed.faults;
      };
    }

-- ---- a line that has no reply, or not a whole one

reply_some : (reply : Answer) → 0 < length (answer_line reply)
unfolding answer_line
reply_some reply = omega (arith, length-append {A = ℕ})

cut_bytes : (replies : List Answer) (reply : Answer) (place : ℕ)
    → (text_of replies ++ take place (answer_line reply)) ++ drop place (answer_line reply)
    ≡ text_of (replies ++ reply ∷ [])
cut_bytes replies reply place =
    append_assoc (text_of replies) (take place (answer_line reply)) (drop place (answer_line reply))
    ∙ ap (λ l. text_of replies ++ l) (take-append-drop place (answer_line reply))
    ∙ sym (text_more replies reply)

ended_at_fault : (old now after : Desk) (reader reader_after : ReaderState) (buffer : LineBuffer)
    → Progress old now reader → (t : TakesLine now.source after.source reader reader_after buffer)
    → FailsInReply t.text now.sink after.sink now.server after.server
    → Ended old after (Err WriteFault)
ended_at_fault old now after reader reader_after buffer p t f =
    let heard = heard_line old.source.left now.source after.source reader reader_after buffer
    p.lines p.heard t in
    let place = f.part.0 in
    record {
      serves = serves_by old after status.WriteFault (record {
        taken = heard.consumed;
        takes = heard.consumes;
        count = omega (arith, heard.count, heard.fits);
        lines = p.lines ++ t.text ∷ [];
        more = lines_of (reader_after.pending ++ rest_of old.source.left after.source.left);
        all_lines = all_heard old.source.left after.source.left reader_after
            (p.lines ++ t.text ∷ []) heard;
        replies = p.replies ++ f.reply ∷ [];
        mid = state_of after.server;
        session = session_reply (state_of old.server) (state_of now.server) (state_of after.server)
            p.lines p.replies t.text f.reply p.session f.answers;
        cut = (refl, f.unfailed.failure);
        written = text_of p.replies ++ take place (answer_line f.reply);
        unwritten = drop place (answer_line f.reply);
        appends = Appends-trans old.sink.held now.sink.held after.sink.held (text_of p.replies)
            (take place (answer_line f.reply)) p.written f.part.2;
        all_bytes = cut_bytes p.replies f.reply place;
        comes_to = tt;
        quits = last_more p.lines t.text p.goes_on;
        leaves = (
          place,
          record {
            before = p.replies;
            last = f.reply;
            is_last = refl;
            within = f.part.1;
            rest = refl;
          },
        );
      });
      ends = record {
        serving = tt;
        reads = t.steady ∙ p.reads;
        puts = subst (λ (n : ℕ). HasRisen n after.sink.faults) p.puts f.rises;
        keeps = f.unfailed.faults ∙ p.unfailed.faults;
      };
    }

-- memory ran out, and nothing of the line's reply was written
ended_before_reply : (old now after : Desk) (reader reader_after : ReaderState)
    (buffer : LineBuffer)
    → Progress old now reader → (t : TakesLine now.source after.source reader reader_after buffer)
    → after.sink ≡ now.sink → LacksMemory t.text now.server after.server
    → Ended old after (Err NoMemory)
ended_before_reply old now after reader reader_after buffer p t sink r =
    let heard = heard_line old.source.left now.source after.source reader reader_after buffer
    p.lines p.heard t in
    record {
      serves = serves_by old after status.NoMemory (record {
        taken = heard.consumed;
        takes = heard.consumes;
        count = omega (arith, heard.count, heard.fits);
        lines = p.lines ++ t.text ∷ [];
        more = lines_of (reader_after.pending ++ rest_of old.source.left after.source.left);
        all_lines = all_heard old.source.left after.source.left reader_after
            (p.lines ++ t.text ∷ []) heard;
        replies = p.replies ++ r.reply ∷ [];
        mid = state_of after.server;
        session = session_reply (state_of old.server) (state_of now.server) (state_of after.server)
            p.lines p.replies t.text r.reply p.session r.answers;
        cut = (inl refl, r.unfailed.failure);
        written = text_of p.replies;
        unwritten = answer_line r.reply;
        appends = subst (λ (s : SinkState). Appends old.sink.held s.held (text_of p.replies))
            (sym sink) p.written;
        all_bytes = sym (text_more p.replies r.reply);
        comes_to = inr (inr (reply_some r.reply));
        quits = inr (last_more p.lines t.text p.goes_on, reply_some r.reply);
        leaves = inr (record {
          before = p.replies;
          last = r.reply;
          is_last = refl;
          within = omega arith;
          rest = refl;
        });
      });
      ends = record {
        serving = tt;
        reads = t.steady ∙ p.reads;
        puts = ap (λ (s : SinkState). s.faults) sink ∙ p.puts;
        keeps = r.unfailed.faults ∙ p.unfailed.faults;
      };
    }

-- ---- a line that has no answer

-- the statuses of such a line
abbrev unkept : NotKept → Status
unkept why = status_served (Err (stop_unkept why))

for_each : (why : NotKept) (P : Status → Type 0) → P status.JournalFault → P status.JournalFull
    → P status.NoMemory → P (unkept why)
for_each kept.Fault P fault full memory = fault
for_each kept.Full P fault full memory = full
for_each kept.NoMemory P fault full memory = memory

-- its line is the next of those that weren't served, and what came of its records is known
record Unanswered (why : NotKept) (old now after : Desk) (text : List ℕ) (behind : List (List ℕ))
    : Type 0 where
  pub cut : CutFor (unkept why) (text ∷ behind) (state_of now.server) after.server
  pub keeps : KeepsFor (unkept why) old.server.journal.disk.faults
      after.server.journal.disk.faults

ended_unanswered : (why : NotKept) (old now after : Desk) (reader reader_after : ReaderState)
    (buffer : LineBuffer) → Progress old now reader
    → (t : TakesLine now.source after.source reader reader_after buffer) → after.sink ≡ now.sink
    → Unanswered why old now after t.text
    (lines_of (reader_after.pending ++ rest_of old.source.left after.source.left))
    → Ended old after (Err (stop_unkept why))
ended_unanswered why old now after reader reader_after buffer p t sink u =
    let heard = heard_line old.source.left now.source after.source reader reader_after buffer
    p.lines p.heard t in
    let behind = lines_of (reader_after.pending ++ rest_of old.source.left after.source.left) in
    let count : length heard.consumed ≤ INPUT_LIMIT = omega (arith, heard.count, heard.fits) in
    let some : 0 < length (t.text ∷ behind) = omega arith in
    let reads = t.steady ∙ p.reads in
    let puts = ap (λ (s : SinkState). s.faults) sink ∙ p.puts in
    record {
      serves = serves_by old after (unkept why) (record {
        taken = heard.consumed;
        takes = heard.consumes;
        count = for_each why (λ s. TakesFor s heard.consumed) count count count;
        lines = p.lines;
        more = t.text ∷ behind;
        all_lines = all_heard old.source.left after.source.left reader_after
            (p.lines ++ t.text ∷ []) heard ∙ append_assoc p.lines (t.text ∷ []) behind;
        replies = p.replies;
        mid = state_of now.server;
        session = p.session;
        cut = u.cut;
        written = text_of p.replies;
        unwritten = [];
        appends = subst (λ (s : SinkState). Appends old.sink.held s.held (text_of p.replies))
            (sym sink) p.written;
        all_bytes = append-nil (text_of p.replies);
        comes_to = for_each why (λ s. ComesTo s after.source.left heard.consumed p.lines
            (t.text ∷ behind) []) some some (inr (inl some));
        quits = for_each why (λ s. QuitsFor s p.lines []) p.goes_on p.goes_on (inl p.goes_on);
        leaves = for_each why (λ s. LeavesFor s p.replies []) refl refl (inl refl);
      });
      ends = record {
        serving = for_each why IsServing tt tt tt;
        reads = for_each why (λ s. ReadsFor s old.source.faults after.source.faults) reads reads
            reads;
        puts = for_each why (λ s. PutsFor s old.sink.faults after.sink.faults) puts puts puts;
        keeps = u.keeps;
      };
    }

-- why the first of the records that are left wasn't kept says what came of them
cut_by : (why : NotKept) (left : List Record) (more : List (List ℕ)) (mid : State)
    (journal : JournalState) (new : Server) → StopsAt why left journal new.journal
    → CutsNext more left mid (state_of new) → CutFor (unkept why) more mid new
cut_by kept.Fault [] more mid journal new stops cuts = absurd stops
cut_by kept.Fault (r ∷ left) more mid journal new stops cuts =
    (stops.at, r, left, cuts, stops.failure, stops.room)
cut_by kept.Full [] more mid journal new stops cuts = absurd stops
cut_by kept.Full (r ∷ left) more mid journal new stops cuts =
    (r, left, cuts, stops.1, (stops.0).failure)
cut_by kept.NoMemory left more mid journal new stops cuts =
    (inr (left, cuts), stops.failure)

keeps_by : (why : NotKept) (left : List Record) (start journal after : JournalState)
    → StopsAt why left journal after → journal.disk.faults ≡ start.disk.faults
    → KeepsFor (unkept why) start.disk.faults after.disk.faults
keeps_by kept.Fault [] start journal after stops same = absurd stops
keeps_by kept.Fault (r ∷ left) start journal after stops same =
    subst (λ (n : ℕ). HasRisen n after.disk.faults) same stops.rises
keeps_by kept.Full [] start journal after stops same = absurd stops
keeps_by kept.Full (r ∷ left) start journal after stops same = (stops.0).faults ∙ same
keeps_by kept.NoMemory left start journal after stops same = stops.faults ∙ same

-- a line that was stopped as its records were kept is cut short
pub line_is_cut : (line : List ℕ) (why : NotKept) (old new : Server)
    → (s : LineStops line why old new)
    → LineIsCut line s.stops.front.left (state_of old) (state_of new)
line_is_cut line why old new s =
    let front = s.stops.front in
    record {
      command = s.command;
      asks = s.asks;
      cut = record {
        allowed = s.stops.allowed;
        front = front.front;
        split = front.split;
        kept = ap state_of s.stops.kept
            ∙ ap (λ (r : List Record). serving old.fleet r old.store) front.records;
      };
    }

unanswered_by : (why : NotKept) (old now after : Desk) (reader : ReaderState) (text : List ℕ)
    (behind : List (List ℕ)) → Progress old now reader
    → LineStops text why now.server after.server → Unanswered why old now after text behind
unanswered_by why old now after reader text behind p s =
    let front = s.stops.front in
    record {
      cut = cut_by why front.left (text ∷ behind) (state_of now.server) now.server.journal
          after.server front.stops
          (text, behind, refl, line_is_cut text why now.server after.server s);
      keeps = keeps_by why front.left old.server.journal now.server.journal after.server.journal
          front.stops p.unfailed.faults;
    }

unanswered_at_once : (old now after : Desk) (reader : ReaderState) (text : List ℕ)
    (behind : List (List ℕ)) → Progress old now reader → after.server ≡ now.server
    → Unanswered kept.NoMemory old now after text behind
unanswered_at_once old now after reader text behind p same = record {
  cut = (
    inl (ap state_of same),
    ap (λ (s : Server). s.journal.failure) same ∙ p.unfailed.failure,
  );
  keeps = ap (λ (s : Server). s.journal.disk.faults) same ∙ p.unfailed.faults;
}

ended_unkept : (old now after : Desk) (reader reader_after : ReaderState) (buffer : LineBuffer)
    (why : NotKept) → Progress old now reader
    → (t : TakesLine now.source after.source reader reader_after buffer)
    → StopsBeforeReply why t.text now.sink after.sink now.server after.server
    → Ended old after (Err (stop_unkept why))
ended_unkept old now after reader reader_after buffer why p t (sink, inr stops) =
    let behind = lines_of (reader_after.pending ++ rest_of old.source.left after.source.left) in
    ended_unanswered why old now after reader reader_after buffer p t sink
    (unanswered_by why old now after reader t.text behind p stops)
ended_unkept old now after reader reader_after buffer why p t (sink, inl (is, inl same)) =
    let behind = lines_of (reader_after.pending ++ rest_of old.source.left after.source.left) in
    subst (λ (w : NotKept). Ended old after (Err (stop_unkept w))) (sym is)
    (ended_unanswered kept.NoMemory old now after reader reader_after buffer p t sink
    (unanswered_at_once old now after reader t.text behind p same))
ended_unkept old now after reader reader_after buffer why p t (sink, inl (is, inr lacks)) =
    subst (λ (w : NotKept). Ended old after (Err (stop_unkept w))) (sym is)
    (ended_before_reply old now after reader reader_after buffer p t sink lacks)

pub ended_without_reply : (old now after : Desk) (reader reader_after : ReaderState)
    (buffer : LineBuffer) (why : NoReply) → Progress old now reader
    → (t : TakesLine now.source after.source reader reader_after buffer)
    → LacksReply why t.text now.sink after.sink now.server after.server
    → Ended old after (Err (stop_without_reply why))
ended_without_reply old now after reader reader_after buffer Fault p t f =
    ended_at_fault old now after reader reader_after buffer p t f
ended_without_reply old now after reader reader_after buffer (Unkept why) p t f =
    ended_unkept old now after reader reader_after buffer why p t f

-- ---- the usage line

pub tells_usage : {E : Type 0} (result : Result (Unit {0}) E) (old new : SinkState) (bytes : List ℕ)
    → bytes ≡ usage_line
    → OnOk result (Appends old.held new.held bytes)
    → OnErr result (AppendsPrefix old.held new.held bytes)
    → OnOk result (new.faults ≡ old.faults) → old.faults ≤ new.faults
    → OnErr result (Rose old.faults new.faults) → TellsUsage old new
tells_usage (Ok v) old new bytes same whole part steady later rose =
    inl (subst (Appends old.held new.held) same whole, steady)
tells_usage (Err e) old new bytes same whole part steady later rose =
    inr (subst (AppendsPrefix old.held new.held) same part, (later, rose))

-- where all machines were in before the lines that were served, they are now
pub all_in_now : (old now : Desk) (reader : ReaderState) → Progress old now reader
    → AllAreIn old.server.fleet → AllAreIn now.server.fleet
all_in_now old now reader p are = session_in (state_of old.server) (state_of now.server)
    (requests_among p.lines) p.replies p.session are

-- ---- a sound store

pub serves_sound : (old new : Desk) (status : Status) → Serves old new status
    → IsTrue old.server.store.sound
    → (new.server.store.sound ≡ true) × (new.server.store.faults ≡ old.server.store.faults)
serves_sound old new status s sound =
    let adds = cut_adds status s.more s.mid new.server s.cut in
    let still = session_sound (state_of old.server) s.mid (requests_among s.lines) s.replies
    s.session sound in (
      ap (λ (t : StoreState). t.sound) adds.store ∙ still.0,
      ap (λ (t : StoreState). t.faults) adds.store ∙ still.1,
    )
