-- The rule holds where a turn begins, and what it says where it ends.
use Rattle.std.proofs.Common.{◌≡◌, ◌≢◌, ◌⊎◌, ℕ, zero, suc, ◌+◌, ◌<◌, ◌≤◌, eqb, List, [], ◌∷◌, length, get_or, All, Bool, true, false, cond, refl, sym, ap, ◌∙◌, subst, arith, inl, inr, ⊎_elim, count_by, Option, Some, None, is_some, eq-eqb, ne_eqb, lit≤}
use Rattle.std.specs.List.{filter}
use Rattle.std.proofs.lemmas.Bool.{false_from_ne_true}
use lib.Seq.{drop-length}
use mathlib.Core.Option.{some, some-injective, some-ne-none}
use mathlib.Core.Logic.{dite}
use native.Mathlib.Decide.{ℕ_discrete}
use lib.ListN.{get_elem?}
use Rattle.atomic_table.specs.Table.{opening, Final, Seen}
use Rattle.basics.specs.Prefix.{IsPrefix}
use Rattle.basics.proofs.Prefix.{prefix-self}
use Rattle.turn_lock.specs.declared.view.Beginning.{Beginning}
use Rattle.turn_lock.specs.declared.view.Chief.{Chief}
use Rattle.turn_lock.specs.declared.view.EndedPass.{EndedPass}
use Rattle.turn_lock.specs.declared.view.View.{View}
use Rattle.turn_lock.specs.Story.{added_by, is_under}
use Rattle.turn_lock.specs.View.{is_among, left_by, is_live, waits, spent}
use Rattle.turn_lock.specs.Rule.{Whereabouts, seated, ended, due, free, beginning_of, first_view, Fits, Leads}
use Rattle.turn_lock.proofs.Seats.{put, put_here, put_else, one_place, two_of_them}
use Rattle.turn_lock.proofs.Steps.{seat_number, kind, K}
use Rattle.turn_lock.proofs.Numbers.{own_chief}
use Rattle.turn_lock.proofs.Joins.{left_none}

module _ {X F E : Type 0} (frame : X → F) (story_of : X → List E) (who : E → ℕ) where
  -- only the seat 0 is there, and it has the view of the first
  only_first : (x : X) (P : ℕ → View F E → Type 0) → P 0 (first_view frame story_of x)
      → (id : ℕ) (v : View F E) → get_elem? (first_view frame story_of x ∷ []) id ≡ some v → P id v
  only_first x P p zero v e = subst (P 0) (some-injective (first_view frame story_of x) v e) p
  only_first x P p (suc id) v e = absurd (some-ne-none v (sym e))

  nothing_yet : (x : X) (n : ℕ) → added_by who n (length (story_of x)) (story_of x) ≡ []
  nothing_yet x n = ap (filter (is_under who n)) (drop-length (story_of x))

  pub opens : (x : X) → K frame story_of who (beginning_of frame story_of x)
      (opening (1 ∷ 0 ∷ 0 ∷ []) (Some x ∷ []) (first_view frame story_of x))
  opens x =
      let place : ℕ → Whereabouts = put (λ _. free) 0 (seated 0) in
      let v : View F E = first_view frame story_of x in
      let b : Beginning F = beginning_of frame story_of x in
      record {
        story = story_of x;
        place = place;
        line = (λ _. None);
        served = 0;
        chief = v.chief;
        words = refl;
        slot = inl (x, refl, refl, refl);
        reaches = omega arith;
        some_seat = omega arith;
        heads = λ u at. subst (λ z. (is_live z ≡ true) × (z.number ≡ 0) × (z.chief ≡ v.chief))
            (some-injective v u at) (refl, refl, refl);
        seats = λ id u at live. only_first x
            (λ i z. Fits frame story_of who b (story_of x) place (λ _. None) 0
            (count_by waits (v ∷ [])) i z)
            record {
              begun = refl;
              begins = prefix-self (story_of x);
              reach = omega arith;
              own = nothing_yet x 0;
              known = nothing_yet x 0;
              sits = refl;
              queues = λ t is. absurd (let e : false ≡ true = ap is_some is in cc);
              holding = λ h. absurd (let e : false ≡ true = h in cc);
            } id u at;
        taken = λ n i is. dite (ℕ_discrete n 0)
            (λ e. let zero_is : 0
            ≡ i = ap seat_number (sym (put_here (λ _. free) 0 (seated 0) n e) ∙ is) in
            subst (λ j. (u : View F E) × (get_elem? (v ∷ []) j ≡ some u) × (is_live u ≡ true)
            × (u.number ≡ n)) zero_is (v, refl, refl, sym e))
            (λ ne. absurd (let z : 3 ≡ 0 = sym (ap kind (put_else (λ _. free) 0 (seated 0) n ne))
            ∙ ap kind is in omega arith));
        leads = record {
          limit = lit≤ tt;
          room = omega arith;
          others = refl;
          undrawn = λ n. (
            (λ le. put_else (λ _. free) 0 (seated 0) n (λ e. let h : 1 ≤ n = le in omega arith)),
            (λ is. dite (ℕ_discrete n 0)
                (λ e. absurd (let z : 0 ≡ 3 = sym (ap kind (put_here (λ _. free) 0 (seated 0) n e))
                ∙ ap kind is in omega arith))
                (λ ne. omega arith)),
          );
          next = λ n. (
            (λ is. absurd (let e : false ≡ true = ap is_some is in cc)),
            (λ is. dite (ℕ_discrete n 0)
                (λ e. absurd (let z : 0 ≡ 2 = sym (ap kind (put_here (λ _. free) 0 (seated 0) n e))
                ∙ ap kind is in omega arith))
                (λ ne. absurd (let z : 3
                ≡ 2 = sym (ap kind (put_else (λ _. free) 0 (seated 0) n ne)) ∙ ap kind is in
                omega arith))),
          );
          silent = λ n _. nothing_yet x n;
          gone = λ n. (
            (λ is. absurd (let e : false ≡ true = is in cc)),
            (λ is. dite (ℕ_discrete n 0)
                (λ e. absurd (let z : 0 ≡ 1 = sym (ap kind (put_here (λ _. free) 0 (seated 0) n e))
                ∙ ap kind is in omega arith))
                (λ ne. absurd (let z : 3
                ≡ 1 = sym (ap kind (put_else (λ _. free) 0 (seated 0) n ne)) ∙ ap kind is in
                omega arith))),
          );
          once = refl;
          left = λ n is. nothing_yet x n ∙ refl;
          keeps = λ j is. absurd (let e : false ≡ true = ap is_some is in cc);
        };
      }

  in_filter : (p : E → Bool) (xs : List E) (k : ℕ) (d : E) → k < length xs
      → p (get_or xs k d) ≡ true → 0 < length (filter p xs)
  in_filter p [] k d lt is = absurd (omega arith)
  in_filter p (x ∷ xs) zero d lt is =
      subst (λ t. 0 < length (cond t (x ∷ filter p xs) (filter p xs))) (sym is) (omega arith)
  in_filter p (x ∷ xs) (suc k) d lt is =
      let h = in_filter p xs k d (omega arith) is in
      elim (p x) as (λ t. 0 < length (cond t (x ∷ filter p xs) (filter p xs)))
      [ true ↦ omega arith | false ↦ h ]

  -- each entry is under the number 0 or under an ended one
  pub whose : (xs mine : List E) (ls : List (EndedPass E))
      → ((n : ℕ) → filter (is_under who n) xs ≡ cond (eqb n 0) mine (left_by n ls))
      → All (λ e. (who e ≡ 0) ⊎ (is_among (who e) ls ≡ true)) xs
  whose xs mine ls each k d lt =
      let n : ℕ = who (get_or xs k d) in
      let stands = in_filter (is_under who n) xs k d lt (eq-eqb n n refl) in
      dite (ℕ_discrete n 0) (λ e. inl e)
      (λ ne.
      let P : Bool → Type 0 = λ t. is_among n ls ≡ t → (n ≡ 0) ⊎ (t ≡ true) in
      (elim (is_among n ls) as P [
        | true ↦ λ _. inr refl
        | false ↦ λ out.
            let none : filter (is_under who n) xs ≡ [] =
            each n ∙ ap (λ t. cond t mine (left_by n ls)) (ne_eqb n 0 ne)
            ∙ left_none n ls out in
            absurd (let z : length (filter (is_under who n) xs) ≡ 0 = ap length none in omega arith)
      ]) refl)

  -- the value that is left in the slot
  -- the value that is left in the slot where pass 0 is the only one and doesn't hold the turn
  pub record Closes (b : Beginning F) (v : View F E) (xs : List (Option X)) : Type 0 where
    pub value : X
    pub stands : get_elem? xs 0 ≡ some (Some value)
    pub framed : frame value ≡ b.frame
    pub goes_on : IsPrefix v.seen (story_of value)
    pub each : (n : ℕ) → added_by who n b.start (story_of value)
        ≡ cond (eqb n 0) v.mine (left_by n v.chief.ended)

  pub closes : (b : Beginning F) (id : ℕ) (v : View F E) (ws : List ℕ) (xs : List (Option X))
      → is_live v ≡ true → v.number ≡ 0 → v.holds ≡ false → v.chief.out ≡ 0 → v.chief.due ≡ None
      → Final (Seen (K frame story_of who b) id v) ws xs → Closes b v xs
  closes b id v ws xs live zero_is free_hands alone none_due end =
      let s = end.0 in
      let r = end.1.0 in
      let at = end.1.1 in
      let c : Chief E = v.chief in
      let same = own_chief frame story_of who b s r id v at live zero_is in
      let l = subst (Leads frame story_of who b r.story r.place s.views) (sym same) r.leads in
      let f = r.seats id v at live in
      let none_left : View F E = spent in
      let only : (i : ℕ) (u : View F E) → get_elem? s.views i ≡ some u → is_live u ≡ true → i ≡ id =
      λ i u atu liveu. dite (ℕ_discrete i id) (λ e. e)
      (λ ne. absurd (let two = two_of_them is_live none_left refl s.views id i v u at atu ne live
      liveu in
      let all : count_by is_live s.views ≡ c.out + 1 = l.others in omega arith)) in
      let home : (x : X) × (s.homes ≡ some (Some x) ∷ []) × (frame x ≡ b.frame)
      × (story_of x ≡ r.story) =
      ⊎_elim (λ h. h)
      (λ h. absurd (
      let e = only h.1.0 h.1.1 h.1.2 h.1.3 in
      let is_v : v ≡ h.1.1 =
      one_place s.views id v h.1.1 at (subst (λ j. get_elem? s.views j ≡ some h.1.1) e h.1.2) in
      let z : true ≡ false = sym h.1.4 ∙ sym (ap (λ y. y.holds) is_v) ∙ free_hands in cc))
      r.slot in
      let x : X = home.0 in
      let whole : story_of x ≡ r.story = home.3 in
      let not_first : (n : ℕ) → kind (r.place n) ≢ 0 → n ≢ 0 =
      λ n ne e. ne (ap (λ z. kind (r.place z)) (e ∙ sym zero_is) ∙ ap kind f.sits) in
      let other : (n : ℕ) → n ≢ 0 → cond (eqb n 0) v.mine (left_by n c.ended) ≡ left_by n c.ended =
      λ n ne. ap (λ t. cond t v.mine (left_by n c.ended)) (ne_eqb n 0 ne) in
      let absent : (n : ℕ) → kind (r.place n) ≢ 1 → left_by n c.ended ≡ [] =
      λ n ne. left_none n c.ended
      (false_from_ne_true (is_among n c.ended) (λ h. ne (ap kind ((l.gone n).0 h)))) in
      let P : ℕ → Whereabouts → Type 0 = λ n p. r.place n ≡ p
      → added_by who n b.start r.story ≡ cond (eqb n 0) v.mine (left_by n c.ended) in
      record {
        value = x;
        stands = end.4 0 (Some x) (ap (λ hs. get_elem? hs 0) home.1);
        framed = home.2;
        goes_on = subst (λ z. IsPrefix v.seen z) (sym whole) f.begins;
        each = λ n. ap (added_by who n b.start) whole ∙ elim (r.place n) as (P n) [
          | seated i ↦ λ is.
              let t = r.taken n i is in
              let e = only i t.0 t.1 t.2 in
              let is_v : v ≡ t.0 = one_place s.views id v t.0 at
              (subst (λ j. get_elem? s.views j ≡ some t.0) e t.1) in
              let n_is : v.number ≡ n = ap (λ y. y.number) is_v ∙ t.3 in
              ap (λ z. added_by who z b.start r.story) (sym n_is) ∙ f.own
              ∙ sym (ap (λ q. cond q v.mine (left_by n c.ended))
              (eq-eqb n 0 (sym n_is ∙ zero_is)))
          | ended ↦ λ is. l.left n is
              ∙ sym (other n (not_first n (λ z. let e : 1 ≡ 0 = sym (ap kind is) ∙ z in
              omega arith)))
          | due ↦ λ is. absurd (let z : false ≡ true = ap is_some (sym none_due ∙ (l.next n).1 is)
              in cc)
          | free ↦ λ is. l.silent n (inl is)
              ∙ sym (other n (not_first n (λ z. let e : 3 ≡ 0 = sym (ap kind is) ∙ z in
              omega arith)) ∙ absent n (λ z. let e : 3 ≡ 1 = sym (ap kind is) ∙ z in
              omega arith))
        ] refl;
      }
