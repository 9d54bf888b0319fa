-- The steps by which pass 0 ends another keep the rule: it joins, and compares what both had seen.
use Rattle.std.proofs.Common.{◌≡◌, ◌≢◌, ℕ, ◌+◌, ◌-◌, ◌%◌, ◌^◌, ◌<◌, ◌≤◌, eqb, nat_lt, List, [], ◌∷◌, ◌++◌, length, set, Bool, true, false, cond, ◌&&◌, ◌||◌, not, refl, sym, ap, ap₂, ◌∙◌, subst, arith, inl, inr, ⊎_elim, count_by, Some, None, is_some, unwrap_or, eq-eqb, ne_eqb}
use Rattle.std.proofs.lemmas.Bool.{false_from_ne_true}
use mathlib.Core.Option.{some, none}
use mathlib.Core.Logic.{dite}
use native.Mathlib.Decide.{ℕ_discrete}
use lib.ListN.{get_elem?}
use Rattle.atomic_table.specs.Table.{step, keeps, Allows, Joins}
use Rattle.atomic_table.proofs.Lists.{at_set, set_else}
use Rattle.basics.specs.Prefix.{IsPrefix}
use Rattle.basics.proofs.Prefix.{prefix-fits, prefix-self}
use Rattle.turn_lock.specs.declared.view.Beginning.{Beginning}
use Rattle.turn_lock.specs.declared.view.Chief.{Chief}
use Rattle.turn_lock.specs.declared.view.JoinCheck.{JoinCheck}
use Rattle.turn_lock.specs.declared.view.EndedPass.{EndedPass}
use Rattle.turn_lock.specs.declared.view.View.{View}
use Rattle.turn_lock.specs.Story.{longer, added_by}
use Rattle.turn_lock.specs.View.{is_among, left_by, united_seen, is_live, waits, start_of, spent, united, checked, Compares}
use Rattle.turn_lock.specs.Rule.{Whereabouts, seated, ended, how_many, are_different, Fits, Leads}
use Rattle.turn_lock.proofs.Stories.{known_between, longer_first, longer_other, longer_both}
use Rattle.turn_lock.proofs.Seats.{put, put_here, put_else, bit, one_place, count_set, count_same, two_of_them}
use Rattle.turn_lock.proofs.Steps.{seat_number, kind, heads_lead, taken_set, each_set, not_empty, M, K, first_is, slot_set, fits_place, Goes}
use Rattle.turn_lock.proofs.Numbers.{own_chief}

module _ {E : Type 0} where
  among_added : (n : ℕ) (ls : List (EndedPass E)) (l : EndedPass E)
      → is_among n (ls ++ l ∷ []) ≡ (is_among n ls || eqb l.number n)
  among_added n [] l = elim (eqb l.number n) as (λ t. (t || false) ≡ (false || t))
      [ true ↦ refl | false ↦ refl ]
  among_added n (x ∷ ls) l =
      elim (eqb x.number n) as
      (λ t. (t || is_among n (ls ++ l ∷ [])) ≡ ((t || is_among n ls) || eqb l.number n))
      [ true ↦ refl | false ↦ among_added n ls l ]

  left_before : (n : ℕ) (ls : List (EndedPass E)) (l : EndedPass E) → is_among n ls ≡ true
      → left_by n (ls ++ l ∷ []) ≡ left_by n ls
  left_before n [] l e = absurd (let c : false ≡ true = e in cc)
  left_before n (x ∷ ls) l e =
      let P : Bool → Type 0 = λ t. (t || is_among n ls) ≡ true
      → cond t x.mine (left_by n (ls ++ l ∷ [])) ≡ cond t x.mine (left_by n ls) in
      elim (eqb x.number n) as P [ true ↦ λ _. refl | false ↦ λ h. left_before n ls l h ] e

  left_last : (n : ℕ) (ls : List (EndedPass E)) (l : EndedPass E) → is_among n ls ≡ false
      → n ≡ l.number → left_by n (ls ++ l ∷ []) ≡ l.mine
  left_last n [] l e same = ap (λ t. cond t l.mine []) (eq-eqb l.number n (sym same))
  left_last n (x ∷ ls) l e same =
      let P : Bool → Type 0 = λ t. (t || is_among n ls) ≡ false
      → cond t x.mine (left_by n (ls ++ l ∷ [])) ≡ l.mine in
      elim (eqb x.number n) as P [
        | true ↦ λ h. absurd (let c : true ≡ false = h in cc)
        | false ↦ λ h. left_last n ls l h
            same
      ] e

  pub left_none : (n : ℕ) (ls : List (EndedPass E)) → is_among n ls ≡ false → left_by n ls ≡ []
  left_none n [] e = refl
  left_none n (x ∷ ls) e =
      let P : Bool → Type 0 = λ t. (t || is_among n ls) ≡ false
      → cond t x.mine (left_by n ls) ≡ [] in
      elim (eqb x.number n) as P
      [ true ↦ λ h. absurd (let c : true ≡ false = h in cc) | false ↦ λ h. left_none n ls h ] e

  -- a story that the other begins is the longer one
  pub longer_is : (a b : List E) → IsPrefix b a → longer a b ≡ a
  longer_is a b h =
      let P : Bool → Type 0 = λ t. nat_lt (length a) (length b) ≡ t → cond t b a ≡ a in
      let short = prefix-fits b a h in
      elim (nat_lt (length a) (length b)) as P
      [ true ↦ λ e. absurd (grind arith) | false ↦ λ e. refl ] refl

  different_added : (ls : List (EndedPass E)) (l : EndedPass E) → are_different ls ≡ true
      → is_among l.number ls ≡ false → are_different (ls ++ l ∷ []) ≡ true
  different_added [] l h new = refl
  different_added (x ∷ ls) l h new =
      let P : Bool → Type 0 = λ t. (not t && are_different ls) ≡ true → is_among x.number ls ≡ t
      → are_different ((x ∷ ls) ++ l ∷ []) ≡ true in
      let Q : Bool → Type 0 = λ t. eqb x.number l.number ≡ t → (t || is_among l.number ls) ≡ false
      → (eqb l.number x.number ≡ false) × (is_among l.number ls ≡ false) in
      let apart = (elim (eqb x.number l.number) as Q [
        | true ↦ λ e f. absurd (let z : true ≡ false = f in cc)
        | false ↦ λ e f. (
          ne_eqb l.number x.number
              (λ same. let z : true ≡ false = sym (eq-eqb x.number l.number (sym same)) ∙ e in
              absurd (cc)),
          f,
        )
      ]) refl new in
      (elim (is_among x.number ls) as P [
        | true ↦ λ f e. absurd (let z : false ≡ true = f in cc)
        | false ↦ λ f e.
            let out : is_among x.number (ls ++ l ∷ []) ≡ false =
            among_added x.number ls l ∙ ap₂ (λ y z. y || z) e apart.0 in
            ap₂ (λ y z. not y && z) out (different_added ls l f apart.1)
      ]) h refl

module _ {F E : Type 0} where
  seen_both : (P : List E → Type 0) (v w : View F E) → P v.seen → P w.seen → P (united_seen v w)
  seen_both P v w pv pw =
      elim v.holds as (λ h. P (cond h v.seen (longer v.seen w.seen)))
      [ true ↦ pv | false ↦ longer_both P v.seen w.seen pv pw ]

  seen_first : (v w : View F E) (story : List E) → IsPrefix v.seen story → IsPrefix w.seen story
      → IsPrefix v.seen (united_seen v w)
  seen_first v w story hv hw =
      elim v.holds as (λ h. IsPrefix v.seen (cond h v.seen (longer v.seen w.seen)))
      [ true ↦ prefix-self v.seen | false ↦ longer_first v.seen w.seen story hv hw ]

  -- where the other's story begins it, what a join leaves as seen is the longer of both
  pub seen_is : (v w : View F E) → IsPrefix w.seen (united_seen v w)
      → united_seen v w ≡ longer v.seen w.seen
  seen_is v w =
      elim v.holds as (λ h. IsPrefix w.seen (cond h v.seen (longer v.seen w.seen))
      → cond h v.seen (longer v.seen w.seen) ≡ longer v.seen w.seen) [
        | true ↦ λ h. sym (longer_is v.seen w.seen h)
        | false ↦ λ h. refl
      ]

module _ {X F E : Type 0} (frame : X → F) (story_of : X → List E) (who : E → ℕ) where
  pub compares : (b : Beginning F) (slots id : ℕ) (me : M frame story_of who) (j : JoinCheck E)
      → is_live me.0 ≡ true → me.0.number ≡ 0 → me.0.chief.joined ≡ Some j
      → me.0.seen ≡ cond me.0.holds j.first (longer j.first j.other)
      → Allows (K frame story_of who b) slots id me 2 (λ n. n)
      (Compares frame story_of who (step slots 2 0 0 none) me)
  compares b slots id me j live zero_is joined seen s r wide at below =
      let v : View F E = me.0 in
      let c : Chief E = v.chief in
      let is_first = first_is frame story_of who b s r id v at live zero_is in
      let same = own_chief frame story_of who b s r id v at live zero_is in
      let l = subst (Leads frame story_of who b r.story r.place s.views) (sym same) r.leads in
      let w : View F E = checked v in
      let f = r.seats id v at live in
      let k = l.keeps j joined in
      let both : List E = longer j.first j.other in
      let first_on : IsPrefix j.first v.seen =
      subst (λ z. IsPrefix j.first z) (sym seen)
      (elim v.holds as (λ h. IsPrefix j.first (cond h j.first both))
      [ true ↦ prefix-self j.first | false ↦ longer_first j.first j.other r.story k.0 k.1 ]) in
      let Q : Bool → Type 0 = λ h. v.holds ≡ h → IsPrefix j.other v.seen in
      let other_on : IsPrefix j.other v.seen =
      (elim v.holds as Q [
        | true ↦ λ e. subst (λ z. IsPrefix j.other z) (sym (f.holding e).1) k.1
        | false ↦ λ e.
            subst (λ z. IsPrefix j.other z) (sym (seen ∙ ap (λ h. cond h j.first both) e))
            (longer_other j.first j.other r.story k.0 k.1)
      ]) refl in
      let waits_same : count_by waits (set s.views id w) ≡ count_by waits s.views =
      count_same waits s.views id v w at refl in
      subst (Goes frame story_of who b s 2 id me (λ z. z)
      (Compares frame story_of who (step slots 2 0 0 none) me)) (sym r.words) (
        w,
        keeps,
        tt,
        record {
          story = r.story;
          place = r.place;
          line = r.line;
          served = r.served;
          chief = w.chief;
          words = ap₂ (λ y z. y ∷ (r.served + z) % 2 ^ 64 ∷ r.served % 2 ^ 64 ∷ [])
              (sym (ap (λ z. z.made) same)) (sym waits_same);
          slot = slot_set frame story_of who b r.story s.homes s.views id v w at live refl r.slot;
          reaches = r.reaches;
          some_seat = not_empty s.views id w r.some_seat;
          heads = heads_lead s.views id w w.chief is_first live zero_is refl;
          seats = each_set s.views id w
              (Fits frame story_of who b r.story r.place r.line r.served (count_by waits s.views))
              (Fits frame story_of who b r.story r.place r.line r.served
              (count_by waits (set s.views id w)))
              record {
                begun = f.begun;
                begins = f.begins;
                reach = f.reach;
                own = f.own;
                known = f.known;
                sits = f.sits;
                queues = λ u is. let g = f.queues u is in (
                  g.0,
                  (let h : u < r.served + count_by waits s.views = g.1 in
                      omega arith),
                  g.2,
                );
                holding = f.holding;
              }
              (λ i u ne g. fits_place frame story_of who b r.story r.place r.place r.line r.line
              r.served (count_by waits s.views) (count_by waits (set s.views id w)) i u refl
              (λ _ _. refl) (omega arith) g)
              r.seats;
          taken = taken_set s.views id v w r.place r.place at live refl (λ _ _ e. e) r.taken;
          leads = record {
            limit = l.limit;
            room = l.room;
            others = count_same is_live s.views id v w at refl ∙ l.others;
            undrawn = l.undrawn;
            next = l.next;
            silent = l.silent;
            gone = l.gone;
            once = l.once;
            left = l.left;
            keeps = λ i is. absurd (let z : false ≡ true = ap is_some is in cc);
          };
        },
        (
          refl,
          λ i is.
              let e : j ≡ i = ap (λ o. unwrap_or o j) (sym joined ∙ is) in (
                subst (λ z. IsPrefix z.first v.seen) e first_on,
                subst (λ z. IsPrefix z.other v.seen) e other_on,
                subst (λ z. z.out ≡ c.out + 1) e k.2,
                subst (λ z. z.number ≢ 0) e k.3,
                subst (λ z. is_among z.number z.ended ≡ false) e k.4,
                ap (λ z. added_by who v.number z v.seen) (ap start_of f.begun) ∙ f.known,
              ),
        ),
      )

  pub joins : (b : Beginning F) (id : ℕ) (v : View F E) (other : ℕ) (w : View F E)
      → is_live v ≡ true → v.number ≡ 0 → is_live w ≡ true → w.holds ≡ false → w.ticket ≡ None
      → Joins (K frame story_of who b) id v other w (united v w) spent
  joins b id v other w live zero_is live' free_hands no_ticket s r at apart_seats at' =
      let c : Chief E = v.chief in
      let is_first = first_is frame story_of who b s r id v at live zero_is in
      let same = own_chief frame story_of who b s r id v at live zero_is in
      let l = subst (Leads frame story_of who b r.story r.place s.views) (sym same) r.leads in
      let u : View F E = united v w in
      let none_left : View F E = spent in
      let vs : List (View F E) = set s.views id u in
      let at_w : get_elem? s.views other ≡ some w =
      sym (set_else s.views id other u apart_seats) ∙ at' in
      let f = r.seats id v at live in
      let g = r.seats other w at_w live' in
      let d : ℕ = w.number in
      let place' : ℕ → Whereabouts = put r.place d ended in
      let views' : List (View F E) = set vs other none_left in
      let n : ℕ = count_by waits s.views in
      let n' : ℕ = count_by waits views' in
      let idle : waits w ≡ false = ap (λ z. z && is_some w.ticket) live' ∙ ap is_some no_ticket in
      let waits_same : n' ≡ n =
      omega (
        arith,
        count_set waits vs other w none_left at',
        count_same waits s.views id v u at
            refl,
        ap bit idle,
      ) in
      let fewer : count_by is_live views' + 1 ≡ count_by is_live s.views =
      omega (
        arith,
        count_set is_live vs other w none_left at',
        count_same is_live s.views id v
            u at refl,
        ap bit live',
      ) in
      let two : 2 ≤ count_by is_live s.views =
      two_of_them is_live none_left refl s.views id other v w at at_w apart_seats live live' in
      let all_live : count_by is_live s.views ≡ c.out + 1 = l.others in
      let room : c.out + 1 + how_many c.due ≤ c.made = l.room in
      let apart : (m : ℕ) → kind (r.place m) ≢ 0 → m ≢ d =
      λ m ne e. ne (ap (λ z. kind (r.place z)) e ∙ ap kind g.sits) in
      let lives : (m i : ℕ) → i ≢ other → r.place m ≡ seated i → place' m ≡ r.place m =
      λ m i ne is. put_else r.place d ended m
      (λ e. ne (ap seat_number (sym is ∙ ap r.place e ∙ g.sits))) in
      let long : List E = united_seen v w in
      let long_on : IsPrefix long r.story =
      seen_both (λ z. IsPrefix z r.story) v w f.begins g.begins in
      let P : ℕ → View F E → Type 0 = Fits frame story_of who b r.story r.place r.line r.served n in
      let Q : ℕ → View F E → Type 0 = Fits frame story_of who b r.story place' r.line r.served n' in
      let id_apart : id ≢ other = λ e. apart_seats (sym e) in
      let fits_first : Q id u = record {
        begun = f.begun;
        begins = long_on;
        reach = seen_both (λ z. b.start ≤ length z) v w f.reach g.reach;
        own = f.own;
        known = known_between who v.number b.start v.seen long r.story v.mine
            (seen_first v w r.story f.begins g.begins) long_on f.reach f.known f.own;
        sits = lives v.number id id_apart f.sits ∙ f.sits;
        queues = λ t is. let q = f.queues t is in
            (q.0, (let h : t < r.served + n = q.1 in omega arith), q.2);
        holding = λ h. let has = f.holding h in
            (has.0, ap (λ z. cond z v.seen (longer v.seen w.seen)) h ∙ has.1);
      } in
      let absent : is_among d c.ended ≡ false =
      false_from_ne_true (is_among d c.ended) (λ h. let z : 0 ≡ 1 = sym (ap kind g.sits)
      ∙ ap kind ((l.gone d).0 h) in omega arith) in
      let not_zero : d ≢ 0 =
      λ e. id_apart (ap seat_number (sym f.sits ∙ ap r.place (zero_is ∙ sym e) ∙ g.sits)) in
      let leaver : EndedPass E = record { number = d; mine = w.mine } in
      let here : (m : ℕ) → m ≡ d → place' m ≡ ended = put_here r.place d ended in
      let else' : (m : ℕ) → m ≢ d → place' m ≡ r.place m = put_else r.place d ended in
      record {
        story = r.story;
        place = place';
        line = r.line;
        served = r.served;
        chief = u.chief;
        words = r.words ∙ ap₂ (λ y z. y ∷ (r.served + z) % 2 ^ 64 ∷ r.served % 2 ^ 64 ∷ [])
            (sym (ap (λ z. z.made) same)) (sym waits_same);
        slot = ⊎_elim (λ h. inl h)
            (λ h. inr (
              h.0,
              let ne : h.1.0 ≢ other = λ e.
                  let is_w : w ≡ h.1.1 =
                  one_place vs other w h.1.1 at'
                  (subst (λ i. get_elem? vs i ≡ some h.1.1) e h.1.2) in
                  let z : true ≡ false = sym h.1.4 ∙ sym (ap (λ y. y.holds) is_w) ∙ free_hands in
                  absurd (cc) in
                  (h.1.0, h.1.1, set_else vs other h.1.0 none_left ne ∙ h.1.2, h.1.3, h.1.4),
            ))
            (slot_set frame story_of who b r.story s.homes s.views id v u at live refl r.slot);
        reaches = r.reaches;
        some_seat = not_empty vs other none_left (not_empty s.views id u r.some_seat);
        heads = λ z atz. ⊎_elim
            (λ e. absurd (apart_seats (sym e.0 ∙ sym is_first)))
            (λ e. heads_lead s.views id u u.chief is_first live zero_is refl z e.1)
            (at_set vs other 0 none_left z atz);
        seats = λ i z atz livez. ⊎_elim
            (λ e. absurd (let k : false ≡ true = ap is_live e.1 ∙ livez in cc))
            (λ e. ⊎_elim
            (λ e'. subst (λ y. Q i y) e'.1 (subst (λ y. Q y u) (sym e'.0) fits_first))
            (λ e'. let o = r.seats i z e'.1 livez in
            fits_place frame story_of who b r.story r.place place' r.line r.line r.served n n' i z
            (lives z.number i e.0 o.sits) (λ _ _. refl) (omega arith) o)
            (at_set s.views id i u z e.1))
            (at_set vs other i none_left z atz);
        taken = λ m i is. dite (ℕ_discrete m d)
            (λ e. absurd (let k : 1 ≡ 0 = sym (ap kind (here m e)) ∙ ap kind is in omega arith))
            (λ ne.
            let t = taken_set s.views id v u r.place r.place at live refl (λ _ _ e. e) r.taken m i
            (sym (else' m ne) ∙ is) in
            let off : i ≢ other =
            λ e. ne (sym t.3 ∙ ap (λ y. y.number)
            (one_place vs other t.0 w (subst (λ y. get_elem? vs y ≡ some t.0) e t.1) at')) in
            (t.0, set_else vs other i none_left off ∙ t.1, t.2, t.3));
        leads = record {
          limit = l.limit;
          room = omega arith;
          others = omega arith;
          undrawn = λ m. (
            (λ le. let old = (l.undrawn m).0 le in
                else' m (apart m (λ z. let e : 3 ≡ 0 = sym (ap kind old) ∙ z in omega arith))
                ∙ old),
            (λ is. dite (ℕ_discrete m d)
                (λ e. absurd (let z : 1 ≡ 3 = sym (ap kind (here m e)) ∙ ap kind is in omega arith))
                (λ ne. (l.undrawn m).1 (sym (else' m ne) ∙ is))),
          );
          next = λ m. (
            (λ is. let old = (l.next m).0 is in
                else' m (apart m (λ z. let e : 2 ≡ 0 = sym (ap kind old) ∙ z in omega arith))
                ∙ old),
            (λ is. dite (ℕ_discrete m d)
                (λ e. absurd (let z : 1 ≡ 2 = sym (ap kind (here m e)) ∙ ap kind is in omega arith))
                (λ ne. (l.next m).1 (sym (else' m ne) ∙ is))),
          );
          silent = λ m is. dite (ℕ_discrete m d)
              (λ e. absurd (⊎_elim (λ h. let z : 1 ≡ 3 = sym (ap kind (here m e)) ∙ ap kind h in
              omega arith) (λ h. let z : 1 ≡ 2 = sym (ap kind (here m e)) ∙ ap kind h in
              omega arith) is))
              (λ ne. l.silent m (⊎_elim (λ h. inl (sym (else' m ne) ∙ h))
              (λ h. inr (sym (else' m ne) ∙ h)) is));
          gone = λ m. (
            (λ among. dite (ℕ_discrete m d)
                (λ e. here m e)
                (λ ne.
                let off : eqb d m ≡ false = ne_eqb d m (λ e. ne (sym e)) in
                let e : (is_among m c.ended || false) ≡ true =
                ap (λ t. is_among m c.ended || t) (sym off) ∙ sym (among_added m c.ended leaver)
                ∙ among in
                let old : is_among m c.ended ≡ true =
                elim (is_among m c.ended) as (λ t. (t || false) ≡ true
                → t ≡ true) [ true ↦ λ _. refl | false ↦ λ h. h ] e in
                else' m ne ∙ (l.gone m).0 old)),
            (λ is. dite (ℕ_discrete m d)
                (λ e.
                let on : eqb d m ≡ true = eq-eqb d m (sym e) in
                among_added m c.ended leaver ∙ ap (λ t. is_among m c.ended || t) on
                ∙ elim (is_among m c.ended) as (λ t. (t || true) ≡ true)
                [ true ↦ refl | false ↦ refl ])
                (λ ne. let old = (l.gone m).1 (sym (else' m ne) ∙ is) in
                among_added m c.ended leaver ∙ ap (λ t. t || eqb d m) old)),
          );
          once = different_added c.ended leaver l.once absent;
          left = λ m is. dite (ℕ_discrete m d)
              (λ e.
              ap (λ y. added_by who y b.start r.story) e ∙ g.own
              ∙ sym (left_last m c.ended leaver (ap (λ y. is_among y c.ended) e ∙ absent) e))
              (λ ne. let old = sym (else' m ne) ∙ is in
              l.left m old ∙ sym (left_before m c.ended leaver ((l.gone m).1 old)));
          keeps = λ j is.
              let kept : JoinCheck E =
              record {
                first = v.seen;
                other = w.seen;
                number = d;
                out = c.out;
                ended =
                    c.ended;
              } in
              let e : kept ≡ j = ap (λ o. unwrap_or o kept) is in (
                subst (λ y. IsPrefix y.first r.story) e f.begins,
                subst (λ y. IsPrefix y.other r.story) e g.begins,
                subst (λ y. y.out ≡ (c.out - 1) + 1) e
                    (let h : c.out ≡ (c.out - 1) + 1 = omega arith in h),
                subst (λ y. y.number ≢ 0) e not_zero,
                subst (λ y. is_among y.number y.ended ≡ false) e absent,
              );
        };
      }
