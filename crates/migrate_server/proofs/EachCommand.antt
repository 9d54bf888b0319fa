-- What holds of a part of a state, as its fleet or its records, from before each command to behind
-- it holds so of a session.
use Rattle.std.proofs.Common.{◌≡◌, ℕ, List, [], ◌∷◌, Ok, Err, inl, inr, sym, ap, subst}
use Rattle.cmd_json.specs.declared.command.Command.{Command}
use Rattle.cmd_json.specs.declared.command.Command.TheVariants.{Move}
use Rattle.answers.specs.Answer.{Answer}
use Rattle.answers.specs.declared.refusal.Refusal.{Refusal}
use Rattle.migrate_server.specs.Laws.{AreAlikeInside}
use Rattle.migrate_server.specs.Session.{State, state_after, Fails, Answers, LineAnswers, Session}
use Rattle.migrate_server.specs.declared.line.Line.{Line}
use Rattle.migrate_server.specs.declared.line.Line.TheVariants.{Blank, Asks, Refuses}

-- ---- what is refused leaves the fleet and the records

pub alike_inside : (old new : State) → new ≡ old → AreAlikeInside old new
alike_inside old new same = record {
  fleet = ap (λ (s : State). s.fleet) same;
  records = ap (λ (s : State). s.records) same;
}

failed_stays : (command : Command) (old new : State) → Fails command old new
    → AreAlikeInside old new
failed_stays (Move name sectors writes) old new h = record { fleet = h.0; records = h.1 }
failed_stays _ old new h = absurd h

pub refused_stays : (command : Command) (why : Refusal) (old new : State)
    → Answers command (Err why) old new → AreAlikeInside old new
refused_stays command why old new h = elim h [
  | inl same ↦ alike_inside old new same.1
  | inr fails ↦ failed_stays command old new fails.2
]

pub line_stays : (what : Line) (why : Refusal) (old new : State)
    → LineAnswers what (Err why) old new → AreAlikeInside old new
line_stays Blank why old new h = absurd h
line_stays (Asks command) why old new h = refused_stays command why old new h
line_stays (Refuses other) why old new h = alike_inside old new h.1

-- ---- what each command keeps

module _ {X : Type 0} (part : State → X) (Keeps : (old new : X) → Type 0)
    (itself : (x : X) → Keeps x x)
    (further : (first second third : X) → Keeps first second → Keeps second third
    → Keeps first third)
    (each : (command : Command) (s : State) → Keeps (part s) (part (state_after command s)))
    (inside : (old new : State) → AreAlikeInside old new → part new ≡ part old) where
  stays_so : (old new : State) → AreAlikeInside old new → Keeps (part old) (part new)
  stays_so old new same = subst (Keeps (part old)) (sym (inside old new same)) (itself (part old))

  line_keeps : (what : Line) (answer : Answer) (old new : State) → LineAnswers what answer old new
      → Keeps (part old) (part new)
  line_keeps Blank answer old new h = absurd h
  line_keeps (Asks command) (Ok reply) old new h =
      subst (λ (s : State). Keeps (part old) (part s)) (sym h.2) (each command old)
  line_keeps (Asks command) (Err why) old new h =
      stays_so old new (refused_stays command why old new h)
  line_keeps (Refuses why) answer old new h = stays_so old new (alike_inside old new h.1)

  pub session_keeps : (old new : State) (lines : List (List ℕ)) (answers : List Answer)
      → Session old lines answers new → Keeps (part old) (part new)
  session_keeps old new [] [] h = stays_so old new (alike_inside old new h)
  session_keeps old new [] (a ∷ answers) h = absurd h
  session_keeps old new (l ∷ lines) [] h = absurd h
  session_keeps old new (l ∷ lines) (a ∷ answers) h = further (part old) (part h.0) (part new)
      (line_keeps (h.1).0 a old h.0 (h.1).2) (session_keeps h.0 new lines answers h.2)
