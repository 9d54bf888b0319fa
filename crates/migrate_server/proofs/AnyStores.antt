-- Over any two stores the same lines have the same answers, but for moves that one of them refuses.
use Rattle.std.proofs.Common.{◌≡◌, ◌⊎◌, ℕ, List, [], ◌∷◌, Option, Some, None, Ok, Err, inl, inr, sym, ap, subst, ◌∙◌}
use Rattle.std.specs.Prelude.{MatchOption}
use Rattle.std.proofs.lemmas.Option.{none-some, same_Some}
use Rattle.cmd_json.specs.declared.command.Command.{Command}
use Rattle.cmd_json.specs.declared.command.Command.TheVariants.{Move}
use Rattle.cmd_json.specs.declared.command.MoveWrite.{MoveWrite}
use Rattle.answers.specs.Answer.{Answer}
use Rattle.answers.specs.declared.refusal.Refusal.{Refusal}
use Rattle.answers.specs.declared.refusal.Refusal.TheVariants.{NameTaken, Volume}
use Rattle.reply_json.specs.declared.reply.Reply.{Reply}
use Rattle.target_volume.specs.VolumeStore.{StoreState}
use Rattle.migrate_server.specs.Laws.{AreAlikeInside, IsByStore, AreAlike, AllAlike}
use Rattle.migrate_server.specs.Line.{Means}
use Rattle.migrate_server.specs.Session.{State, state_after, Answers, LineAnswers, Step, Session}
use Rattle.migrate_server.specs.commands.Moves.{move_refusal, MoveRefusal, move_reply}
use Rattle.migrate_server.specs.declared.line.Line.{Line}
use Rattle.migrate_server.specs.declared.line.Line.TheVariants.{Blank, Asks, Refuses}
use Rattle.migrate_server.proofs.Agreeing.{IsNoMove, late_by_inside, one_refusal, Plain, BothLeft, plain_alike, same_after}
use Rattle.migrate_server.proofs.EachCommand.{alike_inside, refused_stays}
use Rattle.migrate_server.proofs.Meanings.{means_one}

-- ---- a move

-- what a move is answered that has this refusal by what it asks for, or none
abbrev MoveAnswer : (refusal : Option Refusal) → Reply → Answer → Type 0
MoveAnswer (Some why) reply answer = answer ≡ Err why
MoveAnswer None reply answer = (answer ≡ Ok reply) ⊎ IsByStore answer

replied : (refusal : Option Refusal) (P : Type 0) (reply given : Reply)
    → MatchOption refusal P (λ why. None ≡ Some why) → given ≡ reply
    → MoveAnswer refusal reply (Ok given)
replied None P reply given h is = inl (ap Ok is)
replied (Some why) P reply given h is = absurd (none-some why h)

by_name : (why : Refusal)
    → (◌≡◌ {A = Option Refusal} (Some why) None) ⊎ (Some why ≡ Some NameTaken)
    → IsByStore (Err why)
by_name why (inl none) = absurd (none-some why (sym none))
by_name why (inr taken) = inl (ap Err (same_Some why NameTaken taken))

refused : (refusal : Option Refusal) (name : List ℕ) (store : StoreState) (reply : Reply)
    (why : Refusal) → MatchOption refusal (MoveRefusal name (Some why) store)
    (λ first. Some why ≡ Some first) → MoveAnswer refusal reply (Err why)
refused None name store reply why h = inr (by_name why h.0)
refused (Some first) name store reply why h = ap Err (same_Some why first h)

failed : (refusal : Option Refusal) (reply : Reply) (why : Refusal) → why ≡ Volume
    → refusal ≡ None → MoveAnswer refusal reply (Err why)
failed None reply why is none = inr (inr (ap Err is))
failed (Some first) reply why is none = absurd (none-some first (sym none))

move_answer : (name : List ℕ) (sectors : ℕ) (writes : List MoveWrite) (answer : Answer)
    (old new : State) → Answers (Move name sectors writes) answer old new
    → MoveAnswer (move_refusal sectors writes) (move_reply sectors writes) answer
move_answer name sectors writes (Ok reply) old new h =
    replied (move_refusal sectors writes) (MoveRefusal name None old.store)
    (move_reply sectors writes) reply h.0 h.1
move_answer name sectors writes (Err why) old new h = elim h [
  | inl same ↦ refused (move_refusal sectors writes) name old.store (move_reply sectors writes) why
      same.0
  | inr fails ↦ failed (move_refusal sectors writes) (move_reply sectors writes) why fails.0 fails.1
]

moves_alike : (refusal : Option Refusal) (reply : Reply) (a b : Answer)
    → MoveAnswer refusal reply a → MoveAnswer refusal reply b
    → (b ≡ a) ⊎ (IsByStore a ⊎ IsByStore b)
moves_alike (Some why) reply a b h k = inl (k ∙ sym h)
moves_alike None reply a b (inl h) (inl k) = inl (k ∙ sym h)
moves_alike None reply a b (inl h) (inr k) = inr (inr k)
moves_alike None reply a b (inr h) k = inr (inl h)

move_leaves : (name : List ℕ) (sectors : ℕ) (writes : List MoveWrite) (answer : Answer)
    (old new : State) → Answers (Move name sectors writes) answer old new
    → AreAlikeInside old new
move_leaves name sectors writes (Ok reply) old new h = record {
  fleet = ap (λ (s : State). s.fleet) h.2;
  records = ap (λ (s : State). s.records) h.2;
}
move_leaves name sectors writes (Err why) old new h =
    refused_stays (Move name sectors writes) why old new h

-- ---- the other commands

plain : (command : Command) → IsNoMove command → (answer : Answer) (old new : State)
    → Answers command answer old new → Plain command answer old new
plain command moves (Ok reply) old new h = h
plain command moves (Err why) old new (inl same) = same
plain (Move name sectors writes) moves (Err why) old new (inr fails) = absurd moves
plain _ moves (Err why) old new (inr fails) = absurd fails.2

-- what each left of two states that are alike inside is so too
alike_then : (one other one_after other_after : State) → AreAlikeInside one other
    → AreAlikeInside one one_after → AreAlikeInside other other_after
    → AreAlikeInside one_after other_after
alike_then one other one_after other_after same h k = record {
  fleet = k.fleet ∙ same.fleet ∙ sym h.fleet;
  records = k.records ∙ same.records ∙ sym h.records;
}

insides_left : (command : Command) (one other one_after other_after : State)
    → AreAlikeInside one other → BothLeft command one other one_after other_after
    → AreAlikeInside one_after other_after
insides_left command one other one_after other_after same (inl stay) =
    alike_then one other one_after other_after same (alike_inside one one_after stay.0)
    (alike_inside other other_after stay.1)
insides_left command one other one_after other_after same (inr go) =
    alike_then (state_after command one) (state_after command other) one_after other_after
    (same_after command one other same) (alike_inside (state_after command one) one_after go.0)
    (alike_inside (state_after command other) other_after go.1)

no_move_alike : (command : Command) → IsNoMove command → (a b : Answer)
    (one other one_after other_after : State) → AreAlikeInside one other
    → Answers command a one one_after → Answers command b other other_after
    → (b ≡ a) × AreAlikeInside one_after other_after
no_move_alike command other_kind a b one other one_after other_after same h k =
    let both = plain_alike command a b one other one_after other_after same
    (one_refusal command one other same
    (λ x y. late_by_inside command other_kind x y one other same))
    (plain command other_kind a one one_after h) (plain command other_kind b other other_after k) in
    (both.0, insides_left command one other one_after other_after same both.1)

-- ---- a line

line_alike : (line : List ℕ) (what : Line) (a b : Answer) (one other one_after other_after : State)
    → Means line what → AreAlikeInside one other → LineAnswers what a one one_after
    → LineAnswers what b other other_after
    → AreAlike line a b × AreAlikeInside one_after other_after
line_alike line Blank a b one other one_after other_after means same h k = absurd h
line_alike line (Refuses why) a b one other one_after other_after means same h k = (
  inl (k.0 ∙ sym h.0),
  alike_then one other one_after other_after same (alike_inside one one_after h.1)
      (alike_inside other other_after k.1),
)
line_alike line (Asks (Move name sectors writes)) a b one other one_after other_after means same
    h k =
    let alike = moves_alike (move_refusal sectors writes) (move_reply sectors writes) a b
    (move_answer name sectors writes a one one_after h)
    (move_answer name sectors writes b other other_after k) in (
      elim alike [
        | inl one_answer ↦ inl one_answer
        | inr stores ↦ inr ((name, sectors, writes, means), stores)
      ],
      alike_then one other one_after other_after same
          (move_leaves name sectors writes a one one_after h)
          (move_leaves name sectors writes b other other_after k),
    )
line_alike line (Asks command) a b one other one_after other_after means same h k =
    let both = no_move_alike command tt a b one other one_after other_after same h k in
    (inl both.0, both.1)

step_alike : (line : List ℕ) (a b : Answer) (one other one_after other_after : State)
    → AreAlikeInside one other → Step line a one one_after → Step line b other other_after
    → AreAlike line a b × AreAlikeInside one_after other_after
step_alike line a b one other one_after other_after same h k =
    let one_meaning = means_one line k.0 h.0 k.1 h.1 in
    line_alike line h.0 a b one other one_after other_after h.1 same h.2
    (subst (λ (what : Line). LineAnswers what b other other_after) one_meaning k.2)

-- ---- a session

pub stores_answer_moves_alone : (one other one_after other_after : State)
    (lines : List (List ℕ)) (answers others : List Answer) → AreAlikeInside one other
    → Session one lines answers one_after → Session other lines others other_after
    → AllAlike lines answers others × AreAlikeInside one_after other_after
stores_answer_moves_alone one other one_after other_after [] [] [] same h k = (
  tt,
  alike_then one other one_after other_after same (alike_inside one one_after h)
      (alike_inside other other_after k),
)
stores_answer_moves_alone one other one_after other_after [] [] (b ∷ others) same h k = absurd k
stores_answer_moves_alone one other one_after other_after [] (a ∷ answers) others same h k =
    absurd h
stores_answer_moves_alone one other one_after other_after (l ∷ lines) [] others same h k =
    absurd h
stores_answer_moves_alone one other one_after other_after (l ∷ lines) (a ∷ answers) [] same h k =
    absurd k
stores_answer_moves_alone one other one_after other_after (l ∷ lines) (a ∷ answers) (b ∷ others)
    same h k =
    let first = step_alike l a b one other h.0 k.0 same h.1 k.1 in
    let rest = stores_answer_moves_alone h.0 k.0 one_after other_after lines answers others first.1
    h.2 k.2 in
    ((first.0, rest.0), rest.1)
