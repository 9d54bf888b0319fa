-- The steps by which pass 0 makes another keep the rule: it draws a number, and splits.
use Rattle.std.proofs.Common.{◌≡◌, ◌≢◌, ℕ, ◌+◌, ◌%◌, ◌^◌, ◌<◌, ◌≤◌, List, [], ◌∷◌, ◌++◌, length, set, true, false, ◌&&◌, refl, sym, ap, ap₂, ◌∙◌, subst, arith, inl, inr, ⊎_elim, count_by, Option, Some, None, is_some, unwrap_or, length-append}
use Rattle.std.proofs.Math.Nat.{mod-eq_of_lt}
use mathlib.Core.Option.{some, none}
use mathlib.Core.Option as maybe
use mathlib.Core.Logic.{dite}
use native.Mathlib.Decide.{ℕ_discrete}
use lib.ListN.{get_elem?}
use Rattle.atomic_table.specs.Table.{step, keeps, Allows, Splits}
use Rattle.atomic_table.proofs.Lists.{at_longer, at_last}
use Rattle.turn_lock.specs.declared.view.Beginning.{Beginning}
use Rattle.turn_lock.specs.declared.view.Chief.{Chief}
use Rattle.turn_lock.specs.declared.view.View.{View}
use Rattle.turn_lock.specs.Story.{added_by}
use Rattle.turn_lock.specs.View.{is_live, waits, start_of, drawn, parted, split_view, DrawsNumber}
use Rattle.turn_lock.specs.Rule.{Whereabouts, seated, due, free, how_many, Fits, Leads, InSlot}
use Rattle.turn_lock.proofs.Stories.{nothing_before}
use Rattle.turn_lock.proofs.Seats.{put, put_here, put_else, bit, at_added, count_same, count_added}
use Rattle.turn_lock.proofs.Steps.{seat_number, kind, heads_lead, taken_set, each_set, not_empty, St, M, K, first_is, slot_set, fits_place, Goes}

module _ {X F E : Type 0} (frame : X → F) (story_of : X → List E) (who : E → ℕ) where
  -- the chief of the rule is that of the seat with the number 0
  pub own_chief : (b : Beginning F) (s : St frame story_of who) (r : K frame story_of who b s)
      (id : ℕ) (v : View F E) → get_elem? s.views id ≡ some v → is_live v ≡ true → v.number ≡ 0
      → v.chief ≡ r.chief
  own_chief b s r id v at live zero_is =
      (r.heads v (subst (λ i. get_elem? s.views i ≡ some v)
      (first_is frame story_of who b s r id v at live zero_is) at)).2

  pub draws_number : (b : Beginning F) (slots id : ℕ) (me : M frame story_of who)
      → is_live me.0 ≡ true → me.0.number ≡ 0 → me.0.chief.due ≡ None → me.0.chief.made + 1 < 2 ^ 32
      → Allows (K frame story_of who b) slots id me 0 (λ n. (n + 1) % 2 ^ 64)
      (DrawsNumber frame story_of who (step slots 0 1 0 none) me)
  draws_number b slots id me live zero_is none_due small s r wide at below =
      let v : View F E = me.0 in
      let c : Chief E = v.chief in
      let is_first = first_is frame story_of who b s r id v at live zero_is in
      let same = own_chief b s r id v at live zero_is in
      let l = subst (Leads frame story_of who b r.story r.place s.views) (sym same) r.leads in
      let d : ℕ = r.chief.made in
      let d_is : c.made ≡ d = ap (λ z. z.made) same in
      let w : View F E = drawn d v in
      let place' : ℕ → Whereabouts = put r.place d due in
      let f = r.seats id v at live in
      let was_free : r.place d ≡ free = (l.undrawn d).0 (omega arith) in
      let apart : (m : ℕ) → kind (r.place m) ≢ 3 → m ≢ d =
      λ m ne e. ne (ap (λ z. kind (r.place z)) e ∙ ap kind was_free) in
      let lives : (m i : ℕ) → r.place m ≡ seated i → place' m ≡ r.place m =
      λ m i is. put_else r.place d due m
      (apart m (λ z. let e : 0 ≡ 3 = sym (ap kind is) ∙ z in omega arith)) in
      let room : c.out + 1 + how_many c.due ≤ c.made = l.room in
      let no_due : how_many c.due ≡ 0 = ap how_many none_due in
      let silent_d : added_by who d b.start r.story ≡ [] = l.silent d (inl was_free) in
      let waits_same : count_by waits (set s.views id w) ≡ count_by waits s.views =
      count_same waits s.views id v w at refl in
      subst (Goes frame story_of who b s 0 id me (λ k. (k + 1) % 2 ^ 64)
      (DrawsNumber frame story_of who (step slots 0 1 0 none) me)) (sym r.words) (
        w,
        keeps,
        tt,
        record {
          story = r.story;
          place = place';
          line = r.line;
          served = r.served;
          chief = w.chief;
          words = ap₂ (λ y z. y ∷ (r.served + z) % 2 ^ 64 ∷ r.served % 2 ^ 64 ∷ [])
              (mod-eq_of_lt (let e : d + 1 < 2 ^ 64 = omega arith in e)
              ∙ (let e : d + 1 ≡ c.made + 1 = omega arith in e)) (sym waits_same);
          slot = slot_set frame story_of who b r.story s.homes s.views id v w at live refl r.slot;
          reaches = r.reaches;
          some_seat = not_empty s.views id w r.some_seat;
          heads = heads_lead s.views id w w.chief is_first live zero_is refl;
          seats = each_set s.views id w
              (Fits frame story_of who b r.story r.place r.line r.served (count_by waits s.views))
              (Fits frame story_of who b r.story place' r.line r.served
              (count_by waits (set s.views id w)))
              record {
                begun = f.begun;
                begins = f.begins;
                reach = f.reach;
                own = f.own;
                known = f.known;
                sits = lives v.number id f.sits ∙ f.sits;
                queues = λ u is. let g = f.queues u is in (
                  g.0,
                  (let h : u < r.served + count_by waits s.views = g.1 in
                      omega arith),
                  g.2,
                );
                holding = f.holding;
              }
              (λ i u ne g. fits_place frame story_of who b r.story r.place place' r.line r.line
              r.served (count_by waits s.views) (count_by waits (set s.views id w)) i u
              (lives u.number i g.sits) (λ _ _. refl) (omega arith) g)
              r.seats;
          taken = taken_set s.views id v w r.place place' at live refl
              (λ n i is. dite (ℕ_discrete n d)
              (λ e. absurd (let z : 2 ≡ 0 = sym (ap kind (put_here r.place d due n e))
              ∙ ap kind is in omega arith))
              (λ ne. sym (put_else r.place d due n ne) ∙ is))
              r.taken;
          leads = record {
            limit = (let k : c.made + 1 ≤ 4294967295 = omega arith in k);
            room = omega arith;
            others = count_same is_live s.views id v w at refl ∙ l.others;
            undrawn = λ n. (
              (λ le. let le' : c.made + 1 ≤ n = le in
                  put_else r.place d due n (λ e. omega arith) ∙ (l.undrawn n).0 (omega arith)),
              (λ is. dite (ℕ_discrete n d)
                  (λ e. absurd (let z : 2 ≡ 3 = sym (ap kind (put_here r.place d due n e))
                  ∙ ap kind is in omega arith))
                  (λ ne. let old : c.made ≤ n = (l.undrawn n).1 (sym (put_else r.place d due n ne)
                  ∙ is) in omega arith)),
            );
            next = λ n. (
              (λ is. put_here r.place d due n (sym (ap (λ o. unwrap_or o 0) is))),
              (λ is. dite (ℕ_discrete n d)
                  (λ e. ap (λ z. Some z) (sym e))
                  (λ ne. absurd (let old : c.due
                  ≡ Some n = (l.next n).1 (sym (put_else r.place d due n ne) ∙ is) in
                  let z : false ≡ true = ap is_some (sym none_due ∙ old) in cc))),
            );
            silent = λ n is. dite (ℕ_discrete n d)
                (λ e. ap (λ z. added_by who z b.start r.story) e ∙ silent_d)
                (λ ne. l.silent n (⊎_elim (λ e. inl (sym (put_else r.place d due n ne) ∙ e))
                (λ e. inr (sym (put_else r.place d due n ne) ∙ e)) is));
            gone = λ n. (
              (λ among. let old = (l.gone n).0 among in
                  put_else r.place d due n
                  (apart n (λ z. let e : 1 ≡ 3 = sym (ap kind old) ∙ z in omega arith)) ∙ old),
              (λ is. dite (ℕ_discrete n d)
                  (λ e. absurd (let z : 2 ≡ 1 = sym (ap kind (put_here r.place d due n e))
                  ∙ ap kind is in omega arith))
                  (λ ne. (l.gone n).1 (sym (put_else r.place d due n ne) ∙ is))),
            );
            once = l.once;
            left = λ n is. dite (ℕ_discrete n d)
                (λ e. absurd (let z : 2 ≡ 1 = sym (ap kind (put_here r.place d due n e))
                ∙ ap kind is in omega arith))
                (λ ne. l.left n (sym (put_else r.place d due n ne) ∙ is));
            keeps = l.keeps;
          };
        },
        (
          d_is,
          refl,
          (omega arith),
          ap (λ z. added_by who d z v.seen) (ap start_of f.begun)
              ∙ nothing_before who d b.start v.seen r.story f.begins f.reach silent_d,
        ),
      )

  slot_added : (b : Beginning F) (story : List E) (homes : List (maybe.Option (Option X)))
      (views : List (View F E)) (w : View F E)
      → InSlot frame story_of who b story homes views
      → InSlot frame story_of who b story homes (views ++ w ∷ [])
  slot_added b story homes views w slot =
      ⊎_elim (λ h. inl h) (λ h. inr
      (h.0, (h.1.0, h.1.1, at_longer views (w ∷ []) h.1.0 h.1.1 h.1.2, h.1.3, h.1.4))) slot

  pub splits : (b : Beginning F) (id : ℕ) (v : View F E) (d : ℕ) → is_live v ≡ true → v.number ≡ 0
      → v.chief.due ≡ Some d → v.chief.joined ≡ None
      → Splits (K frame story_of who b) id v (parted v) (split_view v)
  splits b id v d live zero_is due_is no_join s r at =
      let c : Chief E = v.chief in
      let is_first = first_is frame story_of who b s r id v at live zero_is in
      let same = own_chief b s r id v at live zero_is in
      let l = subst (Leads frame story_of who b r.story r.place s.views) (sym same) r.leads in
      let w : View F E = parted v in
      let new : View F E = split_view v in
      let vs : List (View F E) = set s.views id w in
      let place' : ℕ → Whereabouts = put r.place d (seated (length vs)) in
      let f = r.seats id v at live in
      let was_due : r.place d ≡ due = (l.next d).0 due_is in
      let number_is : new.number ≡ d = ap (λ o. unwrap_or o 0) due_is in
      let apart : (m : ℕ) → kind (r.place m) ≢ 2 → m ≢ d =
      λ m ne e. ne (ap (λ z. kind (r.place z)) e ∙ ap kind was_due) in
      let lives : (m i : ℕ) → r.place m ≡ seated i → place' m ≡ r.place m =
      λ m i is. put_else r.place d (seated (length vs)) m
      (apart m (λ z. let e : 0 ≡ 2 = sym (ap kind is) ∙ z in omega arith)) in
      let room : c.out + 1 + how_many c.due ≤ c.made = l.room in
      let one_due : how_many c.due ≡ 1 = ap how_many due_is in
      let silent_d : added_by who d b.start r.story ≡ [] = l.silent d (inr was_due) in
      let n : ℕ = count_by waits s.views in
      let n' : ℕ = count_by waits (vs ++ new ∷ []) in
      let idle : waits new ≡ false = ap (λ z. z && false) live in
      let waits_same : n' ≡ n =
      omega (
        arith,
        count_added waits vs new,
        count_same waits s.views id v w at refl,
        ap bit
            idle,
      ) in
      let more : count_by is_live (vs ++ new ∷ []) ≡ count_by is_live s.views + 1 =
      omega (
        arith,
        count_added is_live vs new,
        count_same is_live s.views id v w at refl,
        ap
            bit live,
      ) in
      let P : ℕ → View F E → Type 0 = Fits frame story_of who b r.story r.place r.line r.served n in
      let Q : ℕ → View F E → Type 0 = Fits frame story_of who b r.story place' r.line r.served n' in
      let fits_new : Q (length vs) new = record {
        begun = f.begun;
        begins = f.begins;
        reach = f.reach;
        own = ap (λ z. added_by who z b.start r.story) number_is ∙ silent_d;
        known = ap (λ z. added_by who z b.start v.seen) number_is
            ∙ nothing_before who d b.start v.seen r.story f.begins f.reach silent_d;
        sits = put_here r.place d (seated (length vs)) new.number number_is;
        queues = λ u is. absurd (let e : false ≡ true = ap is_some is in cc);
        holding = λ h. absurd (let e : false ≡ true = h in cc);
      } in
      let fits_first : Q id w = record {
        begun = f.begun;
        begins = f.begins;
        reach = f.reach;
        own = f.own;
        known = f.known;
        sits = lives v.number id f.sits ∙ f.sits;
        queues = λ u is. let g = f.queues u is in
            (g.0, (let h : u < r.served + n = g.1 in omega arith), g.2);
        holding = f.holding;
      } in
      let others = each_set s.views id w P Q fits_first
      (λ i u ne g. fits_place frame story_of who b r.story r.place place' r.line r.line r.served
      n n' i u (lives u.number i g.sits) (λ _ _. refl) (omega arith) g) r.seats in
      record {
        story = r.story;
        place = place';
        line = r.line;
        served = r.served;
        chief = w.chief;
        words = r.words ∙ ap₂ (λ y z. y ∷ (r.served + z) % 2 ^ 64 ∷ r.served % 2 ^ 64 ∷ [])
            (sym (ap (λ z. z.made) same)) (sym waits_same);
        slot = slot_added b r.story s.homes vs new
            (slot_set frame story_of who b r.story s.homes s.views id v w at live refl r.slot);
        reaches = r.reaches;
        some_seat = (let h = not_empty s.views id w r.some_seat in
            let e : length (vs ++ new ∷ []) ≡ length vs + 1 = length-append vs (new ∷ []) in
            omega arith);
        heads = λ u at'. ⊎_elim
            (λ e. absurd (let h = not_empty s.views id w r.some_seat in
            let e' : 0 ≡ length vs = e.0 in omega arith))
            (λ e. heads_lead s.views id w w.chief is_first live zero_is refl u e)
            (at_added vs new 0 u at');
        seats = λ i u at' live'. ⊎_elim
            (λ e. subst (λ z. Q i z) e.1 (subst (λ j. Q j new) (sym e.0) fits_new))
            (λ e. others i u e live')
            (at_added vs new i u at');
        taken = λ m i is. dite (ℕ_discrete m d)
            (λ e. let i_is : length vs
            ≡ i = ap seat_number (sym (put_here r.place d (seated (length vs)) m e) ∙ is) in
            (new, at_last vs new i i_is, live, number_is ∙ sym e))
            (λ ne. let t = taken_set s.views id v w r.place r.place at live refl (λ _ _ e. e)
            r.taken m i (sym (put_else r.place d (seated (length vs)) m ne) ∙ is) in
            (t.0, at_longer vs (new ∷ []) i t.0 t.1, t.2, t.3));
        leads = record {
          limit = l.limit;
          room = omega arith;
          others = (let o : count_by is_live s.views ≡ c.out + 1 = l.others in omega arith);
          undrawn = λ m. (
            (λ le. let old = (l.undrawn m).0 le in
                put_else r.place d (seated (length vs)) m
                (apart m (λ z. let e : 3 ≡ 2 = sym (ap kind old) ∙ z in omega arith)) ∙ old),
            (λ is. dite (ℕ_discrete m d)
                (λ e. absurd (let z : 0
                ≡ 3 = sym (ap kind (put_here r.place d (seated (length vs)) m e))
                ∙ ap kind is in omega arith))
                (λ ne. (l.undrawn m).1 (sym (put_else r.place d (seated (length vs)) m ne) ∙ is))),
          );
          next = λ m. (
            (λ is. absurd (let z : false ≡ true = ap is_some is in cc)),
            (λ is. dite (ℕ_discrete m d)
                (λ e. absurd (let z : 0
                ≡ 2 = sym (ap kind (put_here r.place d (seated (length vs)) m e))
                ∙ ap kind is in omega arith))
                (λ ne. absurd (let old = (l.next m).1
                (sym (put_else r.place d (seated (length vs)) m ne) ∙ is) in
                ne (ap (λ o. unwrap_or o 0) (sym old ∙ due_is))))),
          );
          silent = λ m is. dite (ℕ_discrete m d)
              (λ e. ap (λ z. added_by who z b.start r.story) e ∙ silent_d)
              (λ ne. l.silent m (⊎_elim
              (λ e. inl (sym (put_else r.place d (seated (length vs)) m ne) ∙ e))
              (λ e. inr (sym (put_else r.place d (seated (length vs)) m ne) ∙ e)) is));
          gone = λ m. (
            (λ among. let old = (l.gone m).0 among in
                put_else r.place d (seated (length vs)) m
                (apart m (λ z. let e : 1 ≡ 2 = sym (ap kind old) ∙ z in omega arith)) ∙ old),
            (λ is. dite (ℕ_discrete m d)
                (λ e. absurd (let z : 0
                ≡ 1 = sym (ap kind (put_here r.place d (seated (length vs)) m e))
                ∙ ap kind is in omega arith))
                (λ ne. (l.gone m).1 (sym (put_else r.place d (seated (length vs)) m ne) ∙ is))),
          );
          once = l.once;
          left = λ m is. dite (ℕ_discrete m d)
              (λ e. absurd (let z : 0
              ≡ 1 = sym (ap kind (put_here r.place d (seated (length vs)) m e)) ∙ ap kind is in
              omega arith))
              (λ ne. l.left m (sym (put_else r.place d (seated (length vs)) m ne) ∙ is));
          keeps = λ j is. absurd (let z : false ≡ true = ap is_some (sym no_join ∙ is) in cc);
        };
      }
