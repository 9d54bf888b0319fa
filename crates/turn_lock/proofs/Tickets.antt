-- The steps of every pass keep the rule: it draws a ticket, looks at the word of the served
-- tickets, and serves the next.
use Rattle.std.proofs.Common.{◌≡◌, ◌≢◌, ℕ, ◌+◌, ◌%◌, ◌^◌, ◌<◌, ◌≤◌, List, [], ◌∷◌, ◌++◌, length, drop, set, true, false, ◌&&◌, refl, sym, ap, ap₂, ◌∙◌, subst, arith, inl, inr, ⊎_elim, count_by, Option, Some, None, is_some, unwrap_or}
use Rattle.std.specs.List.{filter}
use Rattle.std.proofs.lemmas.List.{append-nil}
use mathlib.Core.Option.{some, none}
use mathlib.Core.Logic.{dite}
use native.Mathlib.Decide.{ℕ_discrete}
use lib.ListN.{get_elem?}
use Rattle.atomic_table.specs.Table.{step, keeps, takes, gives, Allows, put_back, rest}
use Rattle.atomic_table.proofs.Lists.{set_here, set_again, one_turn}
use Rattle.basics.specs.Prefix.{IsPrefix}
use Rattle.basics.proofs.Prefix.{prefix-fits, prefix-self, prefix-trans}
use Rattle.turn_lock.specs.declared.view.Beginning.{Beginning}
use Rattle.turn_lock.specs.declared.view.View.{View}
use Rattle.turn_lock.specs.Story.{is_under, added_by, AddsUnder}
use Rattle.turn_lock.specs.View.{is_live, waits, queued, took, gave, DrawsTicket, LooksAtServed, Serves}
use Rattle.turn_lock.specs.Rule.{Fits}
use Rattle.turn_lock.proofs.Stories.{by_parts, others_add_none}
use Rattle.turn_lock.proofs.Seats.{put, put_here, put_else, bit, at_within, one_place, count_set, count_same}
use Rattle.turn_lock.proofs.Steps.{seat_number, kind, next_mod, heads_kept, taken_set, each_set, not_empty, St, M, K, slot_set, few_wait, fits_place, Goes, leads_set, spelled}

module _ {X F E : Type 0} (frame : X → F) (story_of : X → List E) (who : E → ℕ) where
  pub draws_ticket : (b : Beginning F) (slots id : ℕ) (me : M frame story_of who)
      → is_live me.0 ≡ true → me.0.holds ≡ false → me.0.ticket ≡ None
      → Allows (K frame story_of who b) slots id me 1 (λ n. (n + 1) % 2 ^ 64)
      (DrawsTicket frame story_of who (step slots 1 1 0 none) me)
  draws_ticket b slots id me live free_hands no_ticket s r wide at below =
      let v : View F E = me.0 in
      let n : ℕ = count_by waits s.views in
      let t : ℕ = r.served + n in
      let w : View F E = queued t v in
      let views' : List (View F E) = set s.views id w in
      let n' : ℕ = count_by waits views' in
      let out : waits v ≡ false = ap (λ z. z && is_some v.ticket) live ∙ ap is_some no_ticket in
      let in_line : waits w ≡ true = ap (λ z. z && true) live in
      let more : n' ≡ n + 1 =
      omega (arith, count_set waits s.views id v w at, ap bit out, ap bit in_line) in
      let f = r.seats id v at live in
      let line' : ℕ → Option ℕ = put r.line t (Some id) in
      subst (Goes frame story_of who b s 1 id me (λ k. (k + 1) % 2 ^ 64)
      (DrawsTicket frame story_of who (step slots 1 1 0 none) me)) (sym r.words) (
        w,
        keeps,
        tt,
        record {
          story = r.story;
          place = r.place;
          line = line';
          served = r.served;
          chief = r.chief;
          words = ap (λ z. r.chief.made ∷ z ∷ r.served % 2 ^ 64 ∷ [])
              (next_mod t ∙ ap (λ z. z % 2 ^ 64) (let e : t + 1 ≡ r.served + n' = omega arith in
              e));
          slot = slot_set frame story_of who b r.story s.homes s.views id v w at live refl r.slot;
          reaches = r.reaches;
          some_seat = not_empty s.views id w r.some_seat;
          heads = heads_kept s.views id v w r.chief at live refl refl r.heads;
          seats = each_set s.views id w
              (Fits frame story_of who b r.story r.place r.line r.served n)
              (Fits frame story_of who b r.story r.place line' r.served n')
              record {
                begun = f.begun;
                begins = f.begins;
                reach = f.reach;
                own = f.own;
                known = f.known;
                sits = f.sits;
                queues = λ u is. let e : t ≡ u = ap (λ o. unwrap_or o 0) is in
                    (omega arith, omega arith, put_here r.line t (Some id) u (sym e));
                holding = λ h. absurd (let e : true ≡ false = sym h ∙ free_hands in cc);
              }
              (λ i u ne g. fits_place frame story_of who b r.story r.place r.place r.line line'
              r.served n n' i u refl
              (λ x lt. put_else r.line t (Some id) x (λ e. omega arith)) (omega arith) g)
              r.seats;
          taken = taken_set s.views id v w r.place r.place at live refl (λ _ _ e. e) r.taken;
          leads = leads_set frame story_of who b r.story r.place s.views r.chief id v w at refl
              r.leads;
        },
        (t, refl, refl),
      )

  -- where the ticket is served, nobody has the value out
  at_home : (b : Beginning F) (s : St frame story_of who) (r : K frame story_of who b s) (id : ℕ)
      (v : View F E) → get_elem? s.views id ≡ some v → v.holds ≡ false → r.line r.served ≡ Some id
      → (x : X) × (s.homes ≡ some (Some x) ∷ []) × (frame x ≡ b.frame) × (story_of x ≡ r.story)
  at_home b s r id v at free_hands mine =
      ⊎_elim (λ h. h)
      (λ h.
      let f = r.seats h.1.0 h.1.1 h.1.2 h.1.3 in
      let has = f.holding h.1.4 in
      let its = (f.queues r.served has.0).2 in
      let e : h.1.0 ≡ id = ap (λ o. unwrap_or o 0) (sym its ∙ mine) in
      let same : v ≡ h.1.1 =
      one_place s.views id v h.1.1 at (subst (λ j. get_elem? s.views j ≡ some h.1.1) e h.1.2) in
      absurd (let c : true ≡ false = sym h.1.4 ∙ sym (ap (λ z. z.holds) same) ∙ free_hands in cc))
      r.slot

  pub looks : (b : Beginning F) (slots id : ℕ) (me : M frame story_of who) (t : ℕ)
      → is_live me.0 ≡ true → me.0.holds ≡ false → me.0.ticket ≡ Some t
      → Allows (K frame story_of who b) slots id me 2 (λ n. n)
      (LooksAtServed frame story_of who (step slots 2 0 0 none) me)
  looks b slots id me t live free_hands has s r wide at below =
      let v : View F E = me.0 in
      let n : ℕ = count_by waits s.views in
      let f = r.seats id v at live in
      let q = f.queues t has in
      let told : ℕ → M frame story_of who → Type 0 =
      LooksAtServed frame story_of who (step slots 2 0 0 none) me in
      let few = few_wait frame story_of who b s r in
      subst (Goes frame story_of who b s 2 id me (λ k. k) told) (sym r.words)
      (dite (ℕ_discrete (r.served % 2 ^ 64) (t % 2 ^ 64))
      (λ hit.
      let up : r.served ≤ t = q.0 in
      let lt : t < r.served + n = q.1 in
      let now : r.served ≡ t = one_turn r.served t (2 ^ 64) up (omega arith) hit in
      let home = at_home b s r id v at free_hands (ap r.line now ∙ q.2) in
      let x : X = home.0 in
      let w : View F E = took (story_of x) v in
      let whole : story_of x ≡ r.story = home.3 in
      let waits_same : count_by waits (set s.views id w) ≡ n =
      count_same waits s.views id v w at refl in (
        w,
        takes 0 (Some x),
        ap (λ hs. get_elem? hs 0) home.1,
        record {
          story = r.story;
          place = r.place;
          line = r.line;
          served = r.served;
          chief = r.chief;
          words = ap (λ z. r.chief.made ∷ (r.served + z) % 2 ^ 64 ∷ r.served % 2 ^ 64 ∷ [])
              (sym waits_same);
          slot = inr (
            ap (λ hs. set hs 0 none) home.1,
            (id, w, set_here s.views id w (at_within s.views id v at), live, refl),
          );
          reaches = r.reaches;
          some_seat = not_empty s.views id w r.some_seat;
          heads = heads_kept s.views id v w r.chief at live refl refl r.heads;
          seats = each_set s.views id w
              (Fits frame story_of who b r.story r.place r.line r.served n)
              (Fits frame story_of who b r.story r.place r.line r.served
              (count_by waits (set s.views id w)))
              record {
                begun = f.begun;
                begins = subst (λ z. IsPrefix z r.story) (sym whole) (prefix-self r.story);
                reach = subst (λ z. b.start ≤ length z) (sym whole) r.reaches;
                own = f.own;
                known = ap (added_by who v.number b.start) whole ∙ f.own;
                sits = f.sits;
                queues = λ u is. let g = f.queues u is in
                    (g.0, (let h : u < r.served + n = g.1 in omega arith), g.2);
                holding = λ _. (has ∙ ap (λ z. Some z) (sym now), whole);
              }
              (λ i u ne g. fits_place frame story_of who b r.story r.place r.place r.line r.line
              r.served n (count_by waits (set s.views id w)) i u refl (λ _ _. refl)
              (omega arith) g)
              r.seats;
          taken = taken_set s.views id v w r.place r.place at live refl (λ _ _ e. e) r.taken;
          leads = leads_set frame story_of who b r.story r.place s.views r.chief id v w at refl
              r.leads;
        },
        λ t' is'.
            let e : t ≡ t' = ap (λ o. unwrap_or o 0) (sym has ∙ is') in (
              (λ _. (
                x,
                b,
                refl,
                f.begun,
                home.2,
                subst (λ z. IsPrefix v.seen z) (sym whole) f.begins,
                ap (added_by who v.number b.start) whole ∙ f.own,
              )),
              λ miss. absurd (miss (hit ∙ ap (λ z. z % 2 ^ 64) e)),
            ),
      ))
      (λ miss. (
        v,
        keeps,
        tt,
        subst (λ vs. K frame story_of who b
            (record {
              words = r.chief.made ∷ (r.served + n) % 2 ^ 64 ∷ r.served % 2 ^ 64 ∷ [];
              homes
                  = s.homes;
              views = vs;
            }))
            (sym (set_again s.views id v at)) (spelled frame story_of who b s r),
        λ t' is'.
            let e : t ≡ t' = ap (λ o. unwrap_or o 0) (sym has ∙ is') in
            ((λ hit. absurd (miss (hit ∙ ap (λ z. z % 2 ^ 64) (sym e)))), λ _. refl),
      )))

  abbrev value_in : X → List (ℕ × Option X) → X
  value_in d [] = d
  value_in d (y ∷ ys) = unwrap_or y.1 d

  -- the slot of the table has the holder's value again
  slot_full : (b : Beginning F) (s : St frame story_of who) (r : K frame story_of who b s)
      (me : M frame story_of who) (x : X) → me.1 ≡ (0, Some x) ∷ []
      → put_back s.homes me.1 ≡ some (Some x) ∷ []
  slot_full b s r me x carries =
      ap (put_back s.homes) carries
      ∙ ⊎_elim (λ h. ap (λ hs. set hs 0 (some (Some x))) h.1)
      (λ h. ap (λ hs. set hs 0 (some (Some x))) h.0) r.slot

  pub serves : (b : Beginning F) (slots id : ℕ) (me : M frame story_of who) (x : X)
      → is_live me.0 ≡ true → me.0.holds ≡ true → me.1 ≡ (0, Some x) ∷ []
      → frame x ≡ b.frame → AddsUnder who me.0.number me.0.seen (story_of x)
      → Allows (K frame story_of who b) slots id me 2 (λ n. (n + 1) % 2 ^ 64)
      (Serves frame story_of who (step slots 2 1 0 none) me)
  serves b slots id me x live holds carries framed adds s r wide at below =
      let v : View F E = me.0 in
      let n : ℕ = count_by waits s.views in
      let f = r.seats id v at live in
      let has = f.holding holds in
      let mine = (f.queues r.served has.0).2 in
      let w : View F E = gave (story_of x) v in
      let views' : List (View F E) = set s.views id w in
      let n' : ℕ = count_by waits views' in
      let in_line : waits v ≡ true = ap (λ z. z && is_some v.ticket) live ∙ ap is_some has.0 in
      let out : waits w ≡ false = ap (λ z. z && false) live in
      let less : n' + 1 ≡ n =
      omega (arith, count_set waits s.views id v w at, ap bit in_line, ap bit out) in
      let story' : List E = story_of x in
      let added : List E = drop (length r.story) story' in
      let on : IsPrefix r.story story' = subst (λ z. IsPrefix z story') has.1 adds.0 in
      let own_all : filter (is_under who v.number) added ≡ added =
      subst (λ z. filter (is_under who v.number) (drop (length z) story') ≡ drop (length z) story')
      has.1 adds.1 in
      let still : (m : ℕ) → m ≢ v.number
      → added_by who m b.start story' ≡ added_by who m b.start r.story =
      λ m ne. by_parts who m b.start r.story story' on r.reaches
      ∙ ap (λ z. added_by who m b.start r.story ++ z)
      (others_add_none who m v.number ne added own_all)
      ∙ append-nil (added_by who m b.start r.story) in
      let long : b.start ≤ length story' =
      (let a : b.start ≤ length r.story = r.reaches in
      omega (arith, prefix-fits r.story story' on)) in
      let mine_now : added_by who v.number b.start story' ≡ w.mine =
      by_parts who v.number b.start v.seen story' adds.0 f.reach
      ∙ ap₂ (λ y z. y ++ z) f.known adds.1 in
      let apart : (m : ℕ) → kind (r.place m) ≢ 0 → m ≢ v.number =
      λ m ne e. ne (ap (λ z. kind (r.place z)) e ∙ ap kind f.sits) in
      let l = r.leads in
      let told : ℕ → M frame story_of who → Type 0 =
      Serves frame story_of who (step slots 2 1 0 none) me in
      subst (Goes frame story_of who b s 2 id me (λ k. (k + 1) % 2 ^ 64) told) (sym r.words) (
        w,
        gives,
        tt,
        record {
          story = story';
          place = r.place;
          line = r.line;
          served = r.served + 1;
          chief = r.chief;
          words = ap₂ (λ y z. r.chief.made ∷ y % 2 ^ 64 ∷ z ∷ [])
              (let e : r.served + n ≡ r.served + 1 + n' = omega arith in e) (next_mod r.served);
          slot = inl (x, slot_full b s r me x carries, framed, refl);
          reaches = long;
          some_seat = not_empty s.views id w r.some_seat;
          heads = heads_kept s.views id v w r.chief at live refl refl r.heads;
          seats = each_set s.views id w
              (Fits frame story_of who b r.story r.place r.line r.served n)
              (Fits frame story_of who b story' r.place r.line (r.served + 1) n')
              record {
                begun = f.begun;
                begins = prefix-self story';
                reach = long;
                own = mine_now;
                known = mine_now;
                sits = f.sits;
                queues = λ u is. absurd (let e : false ≡ true = ap is_some is in cc);
                holding = λ h. absurd (let e : false ≡ true = h in cc);
              }
              (λ i u ne g.
              let other : u.number ≢ v.number =
              λ e. ne (ap seat_number (sym g.sits ∙ ap r.place e ∙ f.sits)) in
              let not_mine : (k : ℕ) → r.line k ≡ Some i → k ≢ r.served =
              λ k is e. ne (ap (λ o. unwrap_or o 0) (sym is ∙ ap r.line e ∙ mine)) in
              record {
                begun = g.begun;
                begins = prefix-trans u.seen r.story story' g.begins on;
                reach = g.reach;
                own = still u.number other ∙ g.own;
                known = g.known;
                sits = g.sits;
                queues = λ k is. let q = g.queues k is in
                    let ne' : k ≢ r.served = not_mine k q.2 in
                    let lo : r.served ≤ k = q.0 in let hi : k < r.served + n = q.1 in
                    (omega arith, omega arith, q.2);
                holding = λ h. let has' = g.holding h in
                    absurd (not_mine r.served (g.queues r.served has'.0).2 refl);
              })
              r.seats;
          taken = taken_set s.views id v w r.place r.place at live refl (λ _ _ e. e) r.taken;
          leads = record {
            limit = l.limit;
            room = l.room;
            others = count_same is_live s.views id v w at refl ∙ l.others;
            undrawn = l.undrawn;
            next = l.next;
            silent = λ m is. still m
                (apart m (⊎_elim (λ e z. let c : 0 ≡ 3 = sym z ∙ ap kind e in
                omega arith) (λ e z. let c : 0 ≡ 2 = sym z ∙ ap kind e in omega arith) is))
                ∙ l.silent m is;
            gone = l.gone;
            once = l.once;
            left = λ m is. still m
                (apart m (λ z. let c : 0 ≡ 1 = sym z ∙ ap kind is in omega arith)) ∙ l.left m is;
            keeps = λ j is. let k = l.keeps j is in (
              prefix-trans j.first r.story story' k.0 on,
              prefix-trans j.other r.story story' k.1 on,
              k.2,
              k.3,
              k.4,
            );
          };
        },
        λ x' carries'.
            let same : x ≡ x' = ap (value_in x) (sym carries ∙ carries') in
            ap₂ (λ y z. (gave (story_of y) v, z)) same (ap rest carries),
      )
