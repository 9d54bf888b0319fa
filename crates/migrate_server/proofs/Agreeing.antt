-- The same lines have the same answers, as long as the store fails in none.
use Rattle.std.proofs.Common.{◌≡◌, ◌≢◌, ◌⊎◌, ℕ, Bool, true, false, List, [], ◌∷◌, Option, Some, None, Result, Ok, Err, option_map, if◌then◌else◌, inl, inr, refl, sym, ap, subst, ◌∙◌}
use Rattle.std.specs.Prelude.{MatchOption, IfSome, is_some}
use Rattle.std.specs.BTreeMap.{is_at}
use Rattle.std.proofs.lemmas.List.Elements.{All-head, All-tail}
use Rattle.std.proofs.lemmas.Map.Views.{tells_apart}
use Rattle.std.proofs.lemmas.Option.{none-some, same_Some}
use Rattle.change_id.specs.declared.IdRefused.{IdRefused}
use Rattle.change_id.specs.declared.Since.{Since}
use Rattle.cmd_json.specs.declared.command.Command.{Command}
use Rattle.cmd_json.specs.declared.command.Command.TheVariants.{Move, Query}
use Rattle.fleet.specs.Fleet.{FleetState}
use Rattle.answers.specs.Answer.{Answer}
use Rattle.fleet_commands.specs.commands.Query.{query_refusal, query_reply}
use Rattle.fleet_commands.proofs.Asked.{asks_for_one}
use Rattle.answers.specs.declared.refusal.Refusal.{Refusal}
use Rattle.answers.specs.declared.refusal.Refusal.TheVariants.{NameTaken, Volume}
use Rattle.reply_json.specs.declared.reply.Reply.{Reply}
use Rattle.target_volume.specs.VolumeName.{volume_cmp, volumes_total, find_volume, with_volume}
use Rattle.target_volume.specs.VolumeStore.{StoreState, StoredVolume}
use Rattle.target_volume.specs.declared.volume_name.VolumeName.{VolumeName}
use Rattle.target_volume.specs.declared.volume_name.VolumeName.TheVariants.{Given}
use Rattle.target_volume.proofs.NameLemmas.{exact_volumes, find-with_same}
use Rattle.target_volume.proofs.PairLemmas.{lookup-insert_entry_other}
use Rattle.record_codec.specs.declared.record.Record.{Record}
use Rattle.migrate_server.specs.Laws.{AreAlikeInside, HaveSameNames, Agree, NoneFails}
use Rattle.migrate_server.specs.Session.{State, serving, refusal_of, LateRefusal, HasRefusal, reply_of, Replies, state_after, Answers, LineAnswers, Step, Session}
use Rattle.migrate_server.specs.commands.Moves.{name_refusal, moved_volume}
use Rattle.migrate_server.specs.declared.line.Line.{Line}
use Rattle.migrate_server.specs.declared.line.Line.TheVariants.{Blank, Asks, Refuses}
use Rattle.migrate_server.proofs.Meanings.{means_one}
use Rattle.migrate_server.proofs.NewVolumes.{Volumes}

-- ---- the same names, also where one is added

found_by : (name other : VolumeName) (x : StoredVolume) (volumes : Volumes) (same : Bool)
    → is_at (volume_cmp other) name ≡ same
    → find_volume other (with_volume name x volumes)
    ≡ (if same then Some x else find_volume other volumes)
found_by name other x volumes true is =
    subst (λ (n : VolumeName). find_volume n (with_volume name x volumes) ≡ Some x)
    (sym (tells_apart exact_volumes other name is)) (find-with_same name x volumes)
found_by name other x volumes false is =
    lookup-insert_entry_other volumes_total name other x volumes is

either_way : (same : Bool) (x : StoredVolume) (a b : Option StoredVolume) → is_some b ≡ is_some a
    → is_some (if same then Some x else b) ≡ is_some (if same then Some x else a)
either_way true x a b h = refl
either_way false x a b h = h

names_with : (name : VolumeName) (x : StoredVolume) (one other : Option Volumes)
    → HaveSameNames one other
    → HaveSameNames (option_map (with_volume name x) one) (option_map (with_volume name x) other)
names_with name x None other h = absurd h
names_with name x (Some v) None h = absurd h
names_with name x (Some v) (Some w) h = λ n.
    let same = is_at (volume_cmp n) name in
    ap (λ (o : Option StoredVolume). is_some o) (found_by name n x w same refl)
    ∙ either_way same x (find_volume n v) (find_volume n w) (h n)
    ∙ sym (ap (λ (o : Option StoredVolume). is_some o) (found_by name n x v same refl))

-- ---- what a command finds goes by the fleet and the records, but for the names of volumes

-- the other state, but for its store, is this one
with_store_of : (one other : State) → AreAlikeInside one other
    → serving other.fleet other.records one.store ≡ one
with_store_of one other same =
    ap (λ (f : FleetState). serving f other.records one.store) same.fleet
    ∙ ap (λ (r : List Record). serving one.fleet r one.store) same.records

refusal_by_inside : (command : Command) (s : State) (store : StoreState)
    → refusal_of command s ≡ refusal_of command (serving s.fleet s.records store)
refusal_by_inside (Move name sectors writes) s store = refl
refusal_by_inside _ s store = refl

same_refusal : (command : Command) (one other : State) → AreAlikeInside one other
    → refusal_of command other ≡ refusal_of command one
same_refusal command one other same =
    refusal_by_inside command other one.store
    ∙ ap (refusal_of command) (with_store_of one other same)

reply_by_inside : (command : Command) (s : State) (store : StoreState)
    → reply_of command s ≡ reply_of command (serving s.fleet s.records store)
reply_by_inside (Move name sectors writes) s store = refl
reply_by_inside _ s store = refl

same_reply : (command : Command) (one other : State) → AreAlikeInside one other
    → reply_of command other ≡ reply_of command one
same_reply command one other same =
    reply_by_inside command other one.store
    ∙ ap (reply_of command) (with_store_of one other same)

fleet_by_inside : (command : Command) (s : State) (store : StoreState)
    → (state_after command s).fleet
    ≡ (state_after command (serving s.fleet s.records store)).fleet
fleet_by_inside (Move name sectors writes) s store = refl
fleet_by_inside _ s store = refl

records_by_inside : (command : Command) (s : State) (store : StoreState)
    → (state_after command s).records
    ≡ (state_after command (serving s.fleet s.records store)).records
records_by_inside (Move name sectors writes) s store = refl
records_by_inside _ s store = refl

pub same_after : (command : Command) (one other : State) → AreAlikeInside one other
    → AreAlikeInside (state_after command one) (state_after command other)
same_after command one other same = record {
  fleet = fleet_by_inside command other one.store
      ∙ ap (λ (s : State). (state_after command s).fleet) (with_store_of one other same);
  records = records_by_inside command other one.store
      ∙ ap (λ (s : State). (state_after command s).records) (with_store_of one other same);
}

same_names_after : (command : Command) (one other : State)
    → HaveSameNames one.store.volumes other.store.volumes
    → HaveSameNames (state_after command one).store.volumes
    (state_after command other).store.volumes
same_names_after (Move name sectors writes) one other h =
    names_with (Given name) (moved_volume sectors writes) one.store.volumes other.store.volumes h
same_names_after _ one other h = h

agree_after : (command : Command) (one other : State) → Agree one other
    → Agree (state_after command one) (state_after command other)
agree_after command one other agree = record {
  inside = same_after command one other agree.inside;
  names = same_names_after command one other agree.names;
}

-- ---- the same refusal

taken_alike : (name : List ℕ) (a b : Option Refusal) (one other : Option Volumes)
    → HaveSameNames one other → IfSome one (λ volumes. a ≡ name_refusal name volumes)
    → IfSome other (λ volumes. b ≡ name_refusal name volumes) → b ≡ a
taken_alike name a b None other names h k = absurd names
taken_alike name a b (Some v) None names h k = absurd names
taken_alike name a b (Some v) (Some w) names h k =
    k ∙ ap (λ (t : Bool). if t then Some NameTaken else None) (names (Given name)) ∙ sym h

abbrev pub IsNoMove : Command → Type 0
IsNoMove (Move name sectors writes) = ⊥
IsNoMove _ = Unit {0}

pub late_by_inside : (command : Command) → IsNoMove command → (a b : Option Refusal)
    (one other : State) → AreAlikeInside one other → LateRefusal command a one
    → LateRefusal command b other → b ≡ a
late_by_inside (Move name sectors writes) moves a b one other same h k = absurd moves
late_by_inside (Query vm snapshot disk since start) moves a b one other same h k =
    k.2
    ∙ ap (λ (asked : Result Since IdRefused). query_refusal vm snapshot disk asked start
    other.fleet)
    (asks_for_one since k.0 h.0 k.1 h.1)
    ∙ ap (λ (f : FleetState). query_refusal vm snapshot disk h.0 start f) same.fleet
    ∙ sym h.2
late_by_inside _ moves a b one other same h k = k ∙ sym h

late_alike : (command : Command) (a b : Option Refusal) (one other : State) → Agree one other
    → LateRefusal command a one → LateRefusal command b other → b ≡ a
late_alike (Move name sectors writes) a b one other agree h k =
    taken_alike name a b one.store.volumes other.store.volumes agree.names h.1 k.1
late_alike command a b one other agree h k =
    late_by_inside command tt a b one other agree.inside h k

found_alike : (refusal : Option Refusal) (P Q : Type 0) (a b : Option Refusal) → (P → Q → b ≡ a)
    → MatchOption refusal P (λ why. a ≡ Some why) → MatchOption refusal Q (λ why. b ≡ Some why)
    → b ≡ a
found_alike None P Q a b late h k = late h k
found_alike (Some why) P Q a b late h k = k ∙ sym h

-- two refusals of the command are the same
abbrev pub OneRefusal : Command → (one other : State) → Type 0
OneRefusal command one other = (a b : Option Refusal) → HasRefusal command a one
    → HasRefusal command b other → b ≡ a

pub one_refusal : (command : Command) (one other : State) → AreAlikeInside one other
    → ((a b : Option Refusal) → LateRefusal command a one → LateRefusal command b other → b ≡ a)
    → OneRefusal command one other
one_refusal command one other same late a b h k =
    found_alike (refusal_of command one) (LateRefusal command a one) (LateRefusal command b other) a
    b
    (late a b) h
    (subst (λ (r : Option Refusal). MatchOption r (LateRefusal command b other)
    (λ why. b ≡ Some why))
    (same_refusal command one other same) k)

-- ---- the same reply

replied_alike : (command : Command) (a b : Reply) (one other : State) → AreAlikeInside one other
    → Replies command a one → Replies command b other → b ≡ a
replied_alike (Query vm snapshot disk since start) a b one other same h k =
    k.2
    ∙ ap (λ (asked : Result Since IdRefused). query_reply vm snapshot disk asked start other.fleet)
    (asks_for_one since k.0 h.0 k.1 h.1)
    ∙ ap (λ (f : FleetState). query_reply vm snapshot disk h.0 start f) same.fleet
    ∙ sym h.2
replied_alike command a b one other same h k =
    k ∙ same_reply command one other same ∙ sym h

-- ---- the same answer

-- an answer that no failing store gave
abbrev pub Plain : Command → Answer → (old new : State) → Type 0
Plain command (Ok reply) old new = Answers command (Ok reply) old new
Plain command (Err why) old new = HasRefusal command (Some why) old × (new ≡ old)

plainly : (command : Command) (answer : Answer) (old new : State) → answer ≢ Err Volume
    → Answers command answer old new → Plain command answer old new
plainly command (Ok reply) old new other h = h
plainly command (Err why) old new other h = elim h [
  | inl same ↦ same
  | inr fails ↦ absurd (other (ap Err fails.0))
]

-- both states stayed, or both are what the command leaves
abbrev pub BothLeft : Command → (one other one_after other_after : State) → Type 0
BothLeft command one other one_after other_after = ((one_after ≡ one) × (other_after ≡ other))
    ⊎ ((one_after ≡ state_after command one) × (other_after ≡ state_after command other))

pub plain_alike : (command : Command) (a b : Answer) (one other one_after other_after : State)
    → AreAlikeInside one other → OneRefusal command one other → Plain command a one one_after
    → Plain command b other other_after
    → (b ≡ a) × BothLeft command one other one_after other_after
plain_alike command (Ok a) (Ok b) one other one_after other_after same refused h k =
    (ap Ok (replied_alike command a b one other same h.1 k.1), inr (h.2, k.2))
plain_alike command (Ok a) (Err w) one other one_after other_after same refused h k =
    absurd (none-some w (sym (refused None (Some w) h.0 k.0)))
plain_alike command (Err v) (Ok b) one other one_after other_after same refused h k =
    absurd (none-some v (refused (Some v) None h.0 k.0))
plain_alike command (Err v) (Err w) one other one_after other_after same refused h k =
    (ap Err (same_Some w v (refused (Some v) (Some w) h.0 k.0)), inl (h.1, k.1))

still : (one other one_after other_after : State) → one_after ≡ one → other_after ≡ other
    → Agree one other → Agree one_after other_after
still one other one_after other_after h k agree =
    subst (λ (s : State). Agree s other_after) (sym h)
    (subst (λ (s : State). Agree one s) (sym k) agree)

left_alike : (command : Command) (one other one_after other_after : State) → Agree one other
    → BothLeft command one other one_after other_after → Agree one_after other_after
left_alike command one other one_after other_after agree (inl stay) =
    still one other one_after other_after stay.0 stay.1 agree
left_alike command one other one_after other_after agree (inr go) =
    still (state_after command one) (state_after command other) one_after other_after go.0 go.1
    (agree_after command one other agree)

answers_alike : (command : Command) (a b : Answer) (one other one_after other_after : State)
    → Agree one other → a ≢ Err Volume → b ≢ Err Volume → Answers command a one one_after
    → Answers command b other other_after → (b ≡ a) × Agree one_after other_after
answers_alike command a b one other one_after other_after agree sound sounds h k =
    let refused = one_refusal command one other agree.inside
    (λ x y. late_alike command x y one other agree) in
    let both = plain_alike command a b one other one_after other_after agree.inside refused
    (plainly command a one one_after sound h) (plainly command b other other_after sounds k) in
    (both.0, left_alike command one other one_after other_after agree both.1)

line_alike : (what : Line) (a b : Answer) (one other one_after other_after : State)
    → Agree one other → a ≢ Err Volume → b ≢ Err Volume → LineAnswers what a one one_after
    → LineAnswers what b other other_after → (b ≡ a) × Agree one_after other_after
line_alike Blank a b one other one_after other_after agree sound sounds h k = absurd h
line_alike (Asks command) a b one other one_after other_after agree sound sounds h k =
    answers_alike command a b one other one_after other_after agree sound sounds h k
line_alike (Refuses why) a b one other one_after other_after agree sound sounds h k =
    (k.0 ∙ sym h.0, still one other one_after other_after h.1 k.1 agree)

step_alike : (line : List ℕ) (a b : Answer) (one other one_after other_after : State)
    → Agree one other → a ≢ Err Volume → b ≢ Err Volume → Step line a one one_after
    → Step line b other other_after → (b ≡ a) × Agree one_after other_after
step_alike line a b one other one_after other_after agree sound sounds h k =
    let same = means_one line k.0 h.0 k.1 h.1 in
    line_alike h.0 a b one other one_after other_after agree sound sounds h.2
    (subst (λ (what : Line). LineAnswers what b other other_after) same k.2)

-- ---- a session

cons_alike : (a b : Answer) (answers others : List Answer) → b ≡ a → others ≡ answers
    → ◌≡◌ {A = List Answer} (b ∷ others) (a ∷ answers)
cons_alike a b answers others h k =
    ap (λ (x : Answer). x ∷ others) h ∙ ap (λ (xs : List Answer). a ∷ xs) k

pub same_lines_same_replies : (one other one_after other_after : State) (lines : List (List ℕ))
    (answers others : List Answer) → Agree one other
    → Session one lines answers one_after → Session other lines others other_after
    → NoneFails answers → NoneFails others
    → (others ≡ answers) × Agree one_after other_after
same_lines_same_replies one other one_after other_after [] [] [] agree h k sound sounds =
    (refl, still one other one_after other_after h k agree)
same_lines_same_replies one other one_after other_after [] [] (b ∷ others) agree h k sound sounds =
    absurd k
same_lines_same_replies one other one_after other_after [] (a ∷ answers) others agree h k sound
    sounds =
    absurd h
same_lines_same_replies one other one_after other_after (l ∷ lines) [] others agree h k sound sounds
    =
    absurd h
same_lines_same_replies one other one_after other_after (l ∷ lines) (a ∷ answers) [] agree h k sound
    sounds =
    absurd k
same_lines_same_replies one other one_after other_after (l ∷ lines) (a ∷ answers) (b ∷ others) agree
    h k sound sounds =
    let first = step_alike l a b one other h.0 k.0 agree
    (All-head (λ answer. answer ≢ Err Volume) a answers sound)
    (All-head (λ answer. answer ≢ Err Volume) b others sounds) h.1 k.1 in
    let rest = same_lines_same_replies h.0 k.0 one_after other_after lines answers others first.1
    h.2 k.2
    (All-tail (λ answer. answer ≢ Err Volume) a answers sound)
    (All-tail (λ answer. answer ≢ Err Volume) b others sounds) in
    (cons_alike a b answers others first.0 rest.0, rest.1)
