-- Each kind of step keeps the rule, and tells what it says.
use Rattle.std.proofs.Common.{◌≡◌, ◌≢◌, ℕ, zero, suc, ◌+◌, ◌*◌, ◌/◌, ◌%◌, ◌^◌, ◌<◌, ◌≤◌, List, [], ◌∷◌, length, set, slice_index, slice_set, true, false, ◌&&◌, sym, ap, ◌∙◌, subst, arith, inl, inr, ⊎_elim, count_by, Option, is_some}
use Rattle.std.proofs.Math.Nat.{mod-add-div, add-mul-mod_self_left}
use mathlib.Core.Option.{some, none, some-injective, some-ne-none}
use mathlib.Core.Option as maybe
use mathlib.Core.Logic.{dite}
use native.Mathlib.Decide.{ℕ_discrete}
use lib.ListN.{get_elem?}
use Rattle.atomic_table.specs.Table.{State, Me, Act, Valid, homes_after, carried_after}
use Rattle.atomic_table.proofs.Lists.{at_set, set_here, set_else}
use Rattle.turn_lock.specs.declared.view.Beginning.{Beginning}
use Rattle.turn_lock.specs.declared.view.Chief.{Chief}
use Rattle.turn_lock.specs.declared.view.View.{View}
use Rattle.turn_lock.specs.View.{is_live, waits}
use Rattle.turn_lock.specs.Rule.{Whereabouts, seated, ended, due, free, Fits, Leads, InSlot, RuleHolds}
use Rattle.turn_lock.proofs.Seats.{bit, at_within, there, one_place, count_same, count_within}

abbrev pub seat_number : Whereabouts → ℕ
seat_number (seated i) = i
seat_number ended = 0
seat_number due = 0
seat_number free = 0

abbrev pub kind : Whereabouts → ℕ
kind (seated i) = 0
kind ended = 1
kind due = 2
kind free = 3

-- the next number, modulo 2^64
pub next_mod : (k : ℕ) → (k % 2 ^ 64 + 1) % 2 ^ 64 ≡ (k + 1) % 2 ^ 64
next_mod k =
    let M : ℕ = 2 ^ 64 in
    let e : k + 1 ≡ (k % 2 ^ 64 + 1) + 2 ^ 64 * (k / 2 ^ 64) =
    omega (arith, mod-add-div k (2 ^ 64)) in
    sym (ap (λ t. t % 2 ^ 64) e ∙ add-mul-mod_self_left (k % 2 ^ 64 + 1) (2 ^ 64) (k / 2 ^ 64))

module _ {F E : Type 0} where
  abbrev pub Heads : List (View F E) → Chief E → Type 0
  Heads views c = (v : View F E) → get_elem? views 0 ≡ some v
      → (is_live v ≡ true) × (v.number ≡ 0) × (v.chief ≡ c)

  abbrev pub Taken : List (View F E) → (ℕ → Whereabouts) → Type 0
  Taken views place = (n id : ℕ) → place n ≡ seated id
      → (v : View F E) × (get_elem? views id ≡ some v) × (is_live v ≡ true) × (v.number ≡ n)

  abbrev pub Each : List (View F E) → (ℕ → View F E → Type 0) → Type 0
  Each views P = (id : ℕ) (v : View F E) → get_elem? views id ≡ some v → is_live v ≡ true → P id v

  pub heads_kept : (views : List (View F E)) (id : ℕ) (v w : View F E) (c : Chief E)
      → get_elem? views id ≡ some v → is_live w ≡ true → w.number ≡ v.number → w.chief ≡ v.chief
      → Heads views c → Heads (set views id w) c
  heads_kept views id v w c at live number chief heads u at' =
      ⊎_elim
      (λ e. let h = heads v (subst (λ i. get_elem? views i ≡ some v) (sym e.0) at) in
      let P : View F E → Type 0 = λ z. (is_live z ≡ true) × (z.number ≡ 0) × (z.chief ≡ c) in
      subst P e.1 (live, number ∙ h.1, chief ∙ h.2))
      (λ e. heads u e.1)
      (at_set views id 0 w u at')

  pub heads_lead : (views : List (View F E)) (id : ℕ) (w : View F E) (c : Chief E) → id ≡ 0
      → is_live w ≡ true → w.number ≡ 0 → w.chief ≡ c → Heads (set views id w) c
  heads_lead views id w c zero_is live number chief u at' =
      ⊎_elim
      (λ e. let P : View F E → Type 0 = λ z. (is_live z ≡ true) × (z.number ≡ 0) × (z.chief ≡ c) in
      subst P e.1 (live, number, chief))
      (λ e. absurd (e.0 (sym zero_is)))
      (at_set views id 0 w u at')

  pub taken_set : (views : List (View F E)) (id : ℕ) (v w : View F E) (place place' : ℕ
      → Whereabouts) → get_elem? views id ≡ some v → is_live w ≡ true → w.number ≡ v.number
      → ((n i : ℕ) → place' n ≡ seated i → place n ≡ seated i) → Taken views place
      → Taken (set views id w) place'
  taken_set views id v w place place' at live number back taken n i is =
      let t = taken n i (back n i is) in
      dite (ℕ_discrete i id)
      (λ e. let same : v ≡ t.0 = one_place views id v t.0 at
      (subst (λ j. get_elem? views j ≡ some t.0) e t.1) in (
        w,
        subst (λ j. get_elem? (set views id w) j ≡ some w) (sym e)
            (set_here views id w (at_within views id v at)),
        live,
        number ∙ ap (λ z. z.number) same
            ∙ t.3,
      ))
      (λ ne. (t.0, set_else views id i w ne ∙ t.1, t.2, t.3))

  pub each_set : (views : List (View F E)) (id : ℕ) (w : View F E) (P Q : ℕ → View F E → Type 0)
      → Q id w → ((i : ℕ) (u : View F E) → i ≢ id → P i u → Q i u)
      → Each views P → Each (set views id w) Q
  each_set views id w P Q here more each i u at' live =
      ⊎_elim
      (λ e. subst (λ z. Q i z) e.1 (subst (λ j. Q j w) (sym e.0) here))
      (λ e. more i u e.0 (each i u e.1 live))
      (at_set views id i w u at')

  pub not_empty : (views : List (View F E)) (id : ℕ) (w : View F E) → 0 < length views
      → 0 < length (set views id w)
  not_empty [] id w h = absurd (omega arith)
  not_empty (x ∷ xs) zero w h = omega arith
  not_empty (x ∷ xs) (suc id) w h = omega arith

module _ {X F E : Type 0} (frame : X → F) (story_of : X → List E) (who : E → ℕ) where
  abbrev pub St : Type 0
  St = State (Option X) (View F E)

  abbrev pub M : Type 0
  M = Me (Option X) (View F E)

  abbrev pub K : Beginning F → St → Type 0
  K = RuleHolds frame story_of who

  -- the seat with the number 0 is the seat 0
  pub first_is : (b : Beginning F) (s : St) (r : K b s) (id : ℕ) (v : View F E)
      → get_elem? s.views id ≡ some v → is_live v ≡ true → v.number ≡ 0 → id ≡ 0
  first_is b s r id v at live zero_is =
      let u = there s.views 0 r.some_seat in
      let h = r.heads u.0 u.1 in
      let fu = r.seats 0 u.0 u.1 h.0 in
      let fv = r.seats id v at live in
      ap seat_number (sym fv.sits ∙ ap r.place (zero_is ∙ sym h.1) ∙ fu.sits)

  pub slot_set : (b : Beginning F) (story : List E) (homes : List (maybe.Option (Option X)))
      (views : List (View F E)) (id : ℕ) (v w : View F E) → get_elem? views id ≡ some v
      → is_live w ≡ true → w.holds ≡ v.holds
      → InSlot frame story_of who b story homes views
      → InSlot frame story_of who b story homes (set views id w)
  slot_set b story homes views id v w at live holds slot =
      ⊎_elim (λ h. inl h)
      (λ h. inr (
        h.0,
        dite (ℕ_discrete h.1.0 id)
            (λ e. let same : v ≡ h.1.1 = one_place views id v h.1.1 at
            (subst (λ j. get_elem? views j ≡ some h.1.1) e h.1.2) in (
              id,
              w,
              set_here views id w (at_within views id v at),
              live,
              holds
                  ∙ ap (λ z. z.holds) same ∙ h.1.4,
            ))
            (λ ne. (h.1.0, h.1.1, set_else views id h.1.0 w ne ∙ h.1.2, h.1.3, h.1.4)),
      ))
      slot

  -- fewer seats wait than there are numbers
  pub few_wait : (b : Beginning F) (s : St) (r : K b s) → count_by waits s.views < 2 ^ 32
  few_wait b s r =
      let l = r.leads in
      let le : count_by waits s.views ≤ count_by is_live s.views =
      count_within waits is_live s.views
      (λ v. elim (is_live v) as (λ t. bit (t && is_some v.ticket) ≤ bit t) [
        | true ↦ (elim (is_some v.ticket) as (λ t. bit t ≤ 1)
            [ true ↦ omega arith | false ↦ omega arith ])
        | false ↦ omega arith
      ]) in
      let o = l.others in let m = l.room in let k = l.limit in omega arith

  -- a fact of the story that stays, of the other seats, where nothing but the places of other
  -- numbers changes
  pub fits_place : (b : Beginning F) (story : List E) (place place' : ℕ
      → Whereabouts) (line line' : ℕ → Option ℕ) (served waiting waiting' i : ℕ) (u : View F E)
      → (place' u.number ≡ place u.number) → ((t : ℕ) → t < served + waiting → line' t ≡ line t)
      → waiting ≤ waiting'
      → Fits frame story_of who b story place line served waiting i u
      → Fits frame story_of who b story place' line' served waiting' i u
  fits_place b story place place' line line' served waiting waiting' i u same lines more f =
      record {
        begun = f.begun;
        begins = f.begins;
        reach = f.reach;
        own = f.own;
        known = f.known;
        sits = same ∙ f.sits;
        queues = λ t is. let q = f.queues t is in
            (q.0, (let a : t < served + waiting = q.1 in omega arith), lines t q.1 ∙ q.2);
        holding = f.holding;
      }

  abbrev pub Goes : (b : Beginning F) (s : St) (i id : ℕ) → M → (ℕ → ℕ) → (ℕ → M → Type 0) → List ℕ
      → Type 0
  Goes b s i id me f then ws =
      (w : View F E) × (a : Act (Option X)) × Valid s.homes me.1 a
      × K b (record {
        words = slice_set ws i (f (slice_index ws i));
        homes = homes_after s.homes
            me.1 a;
        views = slice_set s.views id w;
      })
      × then (slice_index ws i) (w, carried_after me.1 a)

  -- what pass 0 keeps, where a view changes that stays live
  pub leads_set : (b : Beginning F) (story : List E) (place : ℕ
      → Whereabouts) (views : List (View F E)) (c : Chief E) (id : ℕ) (v w : View F E)
      → get_elem? views id ≡ some v → is_live w ≡ is_live v
      → Leads frame story_of who b story place views c
      → Leads frame story_of who b story place (set views id w) c
  leads_set b story place views c id v w at live l = record {
    limit = l.limit;
    room = l.room;
    others = count_same is_live views id v w at live ∙ l.others;
    undrawn = l.undrawn;
    next = l.next;
    silent = l.silent;
    gone = l.gone;
    once = l.once;
    left = l.left;
    keeps = l.keeps;
  }

  -- the rule over the words as they are
  pub spelled : (b : Beginning F) (s : St) (r : K b s)
      → K b (record {
        words = r.chief.made ∷ (r.served + count_by waits s.views) % 2 ^ 64 ∷ r.served
            % 2 ^ 64 ∷ [];
        homes = s.homes;
        views = s.views;
      })
  spelled b s r = subst (λ z. K b (record { words = z; homes = s.homes; views = s.views })) r.words
      r
