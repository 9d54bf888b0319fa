-- A pass of a turn: its seat is at the turn's table, and its view has the turn's beginning.
use Rattle.std.proofs.Common.{◌≡◌, ◌≢◌, ℕ, List, [], ◌∷◌, length, get_or, drop, true, false, refl, sym, ap, ◌∙◌, subst, Option, Some, None, is_some, unwrap_or, ap₂, ◌++◌, ◌+◌, ◌-◌, ◌≤◌}
use mathlib.Core.Option.{some, some-injective}
use lib.ListN.{get_elem?}
use Rattle.atomic_table.specs.Seated.{TableId}
use Rattle.atomic_table.specs.Table.{Me}
use Rattle.basics.specs.Prefix.{IsPrefix}
use Rattle.turn_lock.specs.declared.view.Beginning.{Beginning}
use Rattle.turn_lock.specs.declared.view.TurnState.{TurnState}
use Rattle.turn_lock.specs.Turn.{name_of, turn_state}
use Rattle.turn_lock.specs.Pass.{turn_of}
use Rattle.turn_lock.specs.Rule.{beginning_of}
use Rattle.turn_lock.specs.declared.view.View.{View}
use Rattle.turn_lock.specs.declared.view.JoinCheck.{JoinCheck}
use Rattle.turn_lock.specs.Story.{longer, added_by, AddsUnder}
use Rattle.turn_lock.specs.View.{start_of, united, united_seen, is_among}
use Rattle.turn_lock.proofs.Stories.{by_parts}
use Rattle.turn_lock.proofs.Ends.{Closes}
use Rattle.turn_lock.proofs.Joins.{seen_is}

-- a name tells its table
abbrev table_named : List ℕ → TableId
table_named l = record {
  words = get_or l 0 0;
  slots = get_or l 1 0;
  views_name = get_or l 2 0;
  atom = get_or l 3 0;
  block = get_or l 4 0;
  offset = get_or l 5 0;
  slot_names = drop 6 l;
}

-- a pass whose turn has the name of a table sits at it
pub of_name : {F : Type 0} (z at : TableId) (begun : Option (Beginning F)) (t : TurnState F)
    → turn_of z begun ≡ Some t → t.name ≡ name_of at
    → (z ≡ at) × (is_some begun ≡ true)
of_name z at None t e named = absurd (let c : false ≡ true = ap is_some e in cc)
of_name z at (Some b) t e named = (ap table_named (ap (λ o. (unwrap_or o t).name) e ∙ named), refl)

module _ {X F E : Type 0} (frame : X → F) (story_of : X → List E) where
  pub of_turn : (z at : TableId) (begun : Option (Beginning F)) (x : X)
      → turn_of z begun ≡ Some (turn_state frame story_of at x)
      → (z ≡ at) × (begun ≡ Some (beginning_of frame story_of x))
  of_turn z at None x e = absurd (let c : false ≡ true = ap is_some e in cc)
  of_turn z at (Some b) x e =
      let t : TurnState F = turn_state frame story_of at x in
      let same : record { name = name_of z; frame = b.frame; start = b.start } ≡ t =
      ap (λ o. unwrap_or o t) e in (
        ap table_named (ap (λ y. y.name) same),
        ap
            (λ (y : TurnState F). Some (record { frame = y.frame; start = y.start })) same,
      )

abbrev value_of : {X : Type 0} → X → List (ℕ × Option X) → X
value_of d [] = d
value_of d (y ∷ ys) = unwrap_or y.1 d

-- what is carried is one value
pub same_value : {X : Type 0} (l r q : List (ℕ × Option X)) (x y : X) → l ≡ (0, Some x) ∷ r
    → l ≡ (0, Some y) ∷ q → x ≡ y
same_value l r q x y e f = ap (value_of x) (sym e ∙ f)

-- after a give the pass has seen all that it added
pub known_after : {E : Type 0} (who : E → ℕ) (n start : ℕ) (seen story mine : List E)
    → AddsUnder who n seen story → start ≤ length seen → added_by who n start seen ≡ mine
    → added_by who n start story ≡ mine ++ drop (length seen) story
known_after who n start seen story mine adds le known =
    by_parts who n start seen story adds.0 le ∙ ap₂ (λ y z. y ++ z) known adds.1

module _ {X F E : Type 0} (who : E → ℕ) where
  -- what the look after a join told
  pub compared : (v w : View F E) (m : Me (Option X) (View F E)) → m.0 ≡ united v w
      → ((j : JoinCheck E) → m.0.chief.joined ≡ Some j
      → IsPrefix j.first m.0.seen × IsPrefix j.other m.0.seen × (j.out ≡ m.0.chief.out + 1)
      × (j.number ≢ 0) × (is_among j.number j.ended ≡ false)
      × (added_by who m.0.number (start_of m.0.beginning) m.0.seen ≡ m.0.mine))
      → IsPrefix v.seen (longer v.seen w.seen) × IsPrefix w.seen (longer v.seen w.seen)
      × (v.chief.out ≡ (v.chief.out - 1) + 1)
      × (w.number ≢ 0) × (is_among w.number v.chief.ended ≡ false)
      × (added_by who v.number (start_of v.beginning) (longer v.seen w.seen) ≡ v.mine)
      × (united_seen v w ≡ longer v.seen w.seen)
  compared v w m same told =
      let P : View F E → Type 0 =
      λ z. IsPrefix v.seen z.seen × IsPrefix w.seen z.seen × (v.chief.out ≡ z.chief.out + 1)
      × (w.number ≢ 0) × (is_among w.number v.chief.ended ≡ false)
      × (added_by who z.number (start_of z.beginning) z.seen ≡ z.mine) in
      let k = subst P same (told
      (record {
        first = v.seen;
        other = w.seen;
        number = w.number;
        out = v.chief.out;
        ended =
            v.chief.ended;
      }) (ap (λ z. z.chief.joined) same)) in
      let is = seen_is v w k.1 in (
        subst (λ z. IsPrefix v.seen z) is k.0,
        subst (λ z. IsPrefix w.seen z) is k.1,
        k.2,
        k.3,
        k.4,
        subst (λ z. added_by who v.number (start_of v.beginning) z ≡ v.mine) is k.5,
        is,
      )

module _ {X F E : Type 0} (frame : X → F) (story_of : X → List E) (who : E → ℕ) where
  -- the value that was taken out of the closed table is the one that is left
  pub closed_value : (b : Beginning F) (v : View F E) (xs : List (Option X))
      (left : Closes frame story_of who b v xs) (r : Option X) (x : X)
      → get_elem? xs 0 ≡ some r → r ≡ Some x → left.value ≡ x
  closed_value b v xs left r x at is =
      ap (λ o. unwrap_or o left.value) (some-injective (Some left.value) r (sym left.stands ∙ at)
      ∙ is)
