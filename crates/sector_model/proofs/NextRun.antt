-- The next run of a list of runs: where it begins and ends, found sector by sector, and what it
-- leaves of the areas.
use Rattle.std.proofs.Common.{◌≡◌, ℕ, ◌+◌, ◌-◌, ◌^◌, ◌<◌, ◌≤◌, List, [], ◌∷◌, Bool, true, false, cond, ltb, Option, Some, None, MatchOption, refl, sym, ap, subst, ◌∙◌, arith, ◌⊎◌, inl, inr}
use Rattle.std.specs.List.{AllByRecursion, All}
use Rattle.std.proofs.lemmas.Bool.{lt-ltb, le-ltb, cases_lt, ltb-true, ltb-false, false≢true}
use Rattle.std.proofs.lemmas.Option.{none-some, same_Some}
use Rattle.std.proofs.lemmas.List.Elements.{recursion_from_All}
use Rattle.sector_model.specs.Run.{end_of, from_sector, next_run, in_runs, areas_of, AreSpacedFrom, AreSpaced, NoneFrom, IsNext}
use Rattle.sector_model.specs.Page.{areas_from}
use Rattle.sector_model.specs.declared.run.Run.{Run}
use Rattle.sector_model.proofs.Spacing.{SpacedWithin, areas_of-spaced, none_before, none_in_gap, in_first, past_first}
use Rattle.sector_model.proofs.PageLaws.{clip_end, kept, dropped, areas_from-later}

pub run_is : (a b m n : ℕ) → a ≡ b → m ≡ n
    → ◌≡◌ {A = Run} (record { first = a; count = m }) (record { first = b; count = n })
run_is a b m n same long =
    ap (λ x. record { first = x; count = m }) same ∙ ap (λ y. record { first = b; count = y }) long

clipped_at : (b : Bool) (r : Run) (at f e : ℕ) → ltb r.first at ≡ b → at ≤ f → r.first ≤ f
    → (f ≤ at) ⊎ (f ≤ r.first) → end_of r ≡ e
    → cond b (record { first = at; count = end_of r - at }) r ≡ record { first = f; count = e - f }
clipped_at true r at f e is low lower high ends =
    let less : r.first < at = ltb-true r.first at is in
    let same : at ≡ f = elim high [ inl h ↦ omega arith | inr h ↦ omega arith ] in
    run_is at f (end_of r - at) (e - f) same (omega arith)
clipped_at false r at f e is low lower high ends =
    let from : at ≤ r.first = ltb-false r.first at is in
    let same : r.first ≡ f = elim high [ inl h ↦ omega arith | inr h ↦ omega arith ] in
    run_is r.first f r.count (e - f) same (omega arith)

next_kept : (r : Run) (rs : List Run) (at : ℕ) → at < end_of r
    → next_run at (r ∷ rs) ≡ Some (from_sector at r)
next_kept r rs at past = rw (lt-ltb at (end_of r) past) refl

next_dropped : (r : Run) (rs : List Run) (at : ℕ) → end_of r ≤ at
    → next_run at (r ∷ rs) ≡ next_run at rs
next_dropped r rs at over = rw (le-ltb at (end_of r) over) refl

pub true_false : {b : Bool} → b ≡ true → b ≡ false → ⊥
true_false h k = false≢true (sym k ∙ h)

-- the first run that reaches past a sector is what is found there
first_found : (m : ℕ) (r : Run) (rs : List Run) (at f e : ℕ) → AreSpacedFrom m (r ∷ rs)
    → at < end_of r → at ≤ f → f < e → ((s : ℕ) → at ≤ s → s < f → in_runs (r ∷ rs) s ≡ false)
    → ((s : ℕ) → f ≤ s → s < e → in_runs (r ∷ rs) s ≡ true) → in_runs (r ∷ rs) e ≡ false
    → from_sector at r ≡ record { first = f; count = e - f }
first_found m r rs at f e spaced past low some before within behind =
    let lower : r.first ≤ f = elim (cases_lt f r.first) [
      | inl less ↦ absurd (true_false (within f (omega arith) some)
          (none_in_gap m r rs f spaced less))
      | inr from ↦ from
    ] in
    let high : (f ≤ at) ⊎ (f ≤ r.first) = elim (cases_lt r.first at) [
      | inl less ↦ elim (cases_lt at f) [
        | inl gap ↦ absurd (true_false (in_first r rs at (omega arith) past)
            (before at (omega arith) gap))
        | inr from ↦ inl from
      ]
      | inr from ↦ elim (cases_lt r.first f) [
        | inl gap ↦ absurd (true_false
            (in_first r rs r.first (omega arith) (omega (arith, spaced.1)))
            (before r.first from gap))
        | inr stays ↦ inr stays
      ]
    ] in
    let inside : f < end_of r =
    elim high [ inl h ↦ omega arith | inr h ↦ omega (arith, spaced.1) ] in
    let ends : end_of r ≡ e = elim (cases_lt e (end_of r)) [
      | inl less ↦ absurd (true_false (in_first r rs e (omega arith) less) behind)
      | inr from ↦ elim (cases_lt (end_of r) e) [
        | inl gap ↦ absurd (true_false (within (end_of r) (omega arith) gap)
            (past_first r rs (end_of r) (omega arith)
            ∙ none_before (end_of r + 1) rs (end_of r) spaced.2 (omega arith)))
        | inr stays ↦ omega arith
      ]
    ] in
    clipped_at (ltb r.first at) r at f e refl low lower high ends

pub next_some : (m : ℕ) (rs : List Run) (at f e : ℕ) → AreSpacedFrom m rs → at ≤ f → f < e
    → ((s : ℕ) → at ≤ s → s < f → in_runs rs s ≡ false)
    → ((s : ℕ) → f ≤ s → s < e → in_runs rs s ≡ true) → in_runs rs e ≡ false
    → next_run at rs ≡ Some (record { first = f; count = e - f })
next_some m [] at f e spaced low some before within behind =
    absurd (false≢true (within f (omega arith) some))
next_some m (r ∷ rs) at f e spaced low some before within behind =
    elim (cases_lt at (end_of r)) [
      | inl past ↦ next_kept r rs at past
          ∙ ap Some (first_found m r rs at f e spaced past low some before within behind)
      | inr over ↦
          next_dropped r rs at over
          ∙ next_some (end_of r + 1) rs at f e spaced.2 low some
          (λ s from less. sym (past_first r rs s (omega arith)) ∙ before s from less)
          (λ s from less. sym (past_first r rs s (omega arith)) ∙ within s from less)
          (sym (past_first r rs e (omega arith)) ∙ behind)
    ]

pub next_none : (m : ℕ) (rs : List Run) (at : ℕ) → AreSpacedFrom m rs
    → ((s : ℕ) → at ≤ s → in_runs rs s ≡ false) → next_run at rs ≡ None
next_none m [] at spaced none = refl
next_none m (r ∷ rs) at spaced none =
    elim (cases_lt at (end_of r)) [
      | inl past ↦ elim (cases_lt at r.first) [
        | inl less ↦ absurd (true_false
            (in_first r rs r.first (omega arith) (omega (arith, spaced.1)))
            (none r.first (omega arith)))
        | inr from ↦ absurd (true_false (in_first r rs at from past) (none at (omega arith)))
      ]
      | inr over ↦ next_dropped r rs at over
          ∙ next_none (end_of r + 1) rs at spaced.2 (λ s from. sym (past_first r rs s (omega arith))
          ∙ none s from)
    ]

-- the next run, and that the areas from the sector on are it and those from its end on
pub record Next (rs : List Run) (at c : ℕ) (r : Run) : Type 0 where
  pub is : IsNext rs at c r
  pub areas : areas_from at rs ≡ r ∷ areas_from (end_of r) rs

next_clipped : (b : Bool) (m at c : ℕ) (r : Run) (rs : List Run) → ltb r.first at ≡ b
    → AreSpacedFrom m (r ∷ rs) → end_of r ≤ c → at < end_of r
    → IsNext (r ∷ rs) at c (cond b (record { first = at; count = end_of r - at }) r)
next_clipped true m at c r rs is spaced inside past =
    let before = ltb-true r.first at is in
    record {
      from = omega arith;
      some = omega arith;
      inside = omega arith;
      held = λ s from less. in_first r rs s (omega arith) (omega arith);
      gap = λ s from less. absurd (omega arith);
    }
next_clipped false m at c r rs is spaced inside past =
    let behind = ltb-false r.first at is in
    record {
      from = omega arith;
      some = spaced.1;
      inside = inside;
      held = λ s from less. in_first r rs s from less;
      gap = λ s from less. none_in_gap m r rs s spaced less;
    }

first_next : (m : ℕ) (r : Run) (rs : List Run) (at c : ℕ) → AreSpacedFrom m (r ∷ rs) → end_of r ≤ c
    → at < end_of r → Next (r ∷ rs) at c (from_sector at r)
first_next m r rs at c spaced inside past =
    let ends = clip_end r at past in
    record {
      is = next_clipped (ltb r.first at) m at c r rs refl spaced inside past;
      areas = kept at r rs past ∙ ap (λ (more : List Run). from_sector at r ∷ more)
          (areas_from-later at (end_of r + 1) rs spaced.2 (omega arith)
          ∙ sym (dropped (end_of (from_sector at r)) r rs (omega (arith, ends))
          ∙ areas_from-later (end_of (from_sector at r)) (end_of r + 1) rs spaced.2
          (omega (arith, ends))));
    }

later_next : (x : Run) (rs : List Run) (at c : ℕ) (r : Run) → end_of x ≤ at → Next rs at c r
    → Next (x ∷ rs) at c r
later_next x rs at c r over next =
    let from = next.is.from in
    record {
      is = record {
        from = from;
        some = next.is.some;
        inside = next.is.inside;
        held = λ s f less. past_first x rs s (omega arith) ∙ next.is.held s f less;
        gap = λ s f less. past_first x rs s (omega arith) ∙ next.is.gap s f less;
      };
      areas = dropped at x rs over ∙ next.areas
          ∙ ap (λ (more : List Run). r ∷ more)
          (sym (dropped (end_of r) x rs (omega (arith, from))));
    }

pub next_is : (m c : ℕ) (rs : List Run) (at : ℕ) (r : Run) → AreSpacedFrom m rs
    → AllByRecursion (λ x. end_of x ≤ c) rs → next_run at rs ≡ Some r → Next rs at c r
next_is m c [] at r spaced ends next = absurd (none-some r next)
next_is m c (x ∷ rs) at r spaced ends next =
    elim (cases_lt at (end_of x)) [
      | inl past ↦ subst (Next (x ∷ rs) at c)
          (same_Some (from_sector at x) r (sym (next_kept x rs at past) ∙ next))
          (first_next m x rs at c spaced ends.0 past)
      | inr over ↦ later_next x rs at c r over
          (next_is (end_of x + 1) c rs at r spaced.2 ends.1 (sym (next_dropped x rs at over)
          ∙ next))
    ]

-- the next of the areas of blocks
pub next_area : (c at : ℕ) (blocks : List ℕ) (r : Run) → c < 2 ^ 64
    → next_run at (areas_of c blocks) ≡ Some r → Next (areas_of c blocks) at c r
next_area c at blocks r fits next =
    let k : SpacedWithin 0 c (areas_of c blocks) = areas_of-spaced c blocks fits in
    next_is 0 c (areas_of c blocks) at r k.spaced k.ends next

none_next : (rs : List Run) (at : ℕ) → next_run at rs ≡ None
    → NoneFrom rs at × (areas_from at rs ≡ [])
none_next [] at none = (λ s from. refl, refl)
none_next (r ∷ rs) at none =
    elim (cases_lt at (end_of r)) [
      | inl past ↦ absurd (none-some (from_sector at r) (sym none ∙ next_kept r rs at past))
      | inr over ↦
          let rest = none_next rs at (sym (next_dropped r rs at over) ∙ none) in
          (λ s from. past_first r rs s (omega arith) ∙ rest.0 s from, dropped at r rs over ∙ rest.1)
    ]

pub areas_from-none : (rs : List Run) (at : ℕ) → next_run at rs ≡ None → areas_from at rs ≡ []
areas_from-none rs at none = (none_next rs at none).1

found_is : (at c : ℕ) (rs : List Run) (found : Option Run) → next_run at rs ≡ found → AreSpaced rs
    → All (λ r. end_of r ≤ c) rs → MatchOption found (NoneFrom rs at) (IsNext rs at c)
found_is at c rs None is spaced within = (none_next rs at is).0
found_is at c rs (Some r) is spaced within =
    (next_is 0 c rs at r spaced (recursion_from_All (λ r. end_of r ≤ c) rs within) is).is

-- what is found there, in terms of the sectors that the runs have
pub next_found : (at c : ℕ) (rs : List Run) (found : Option Run) → found ≡ next_run at rs
    → AreSpaced rs → All (λ r. end_of r ≤ c) rs
    → MatchOption found (NoneFrom rs at) (IsNext rs at c)
next_found at c rs found is spaced within = found_is at c rs found (sym is) spaced within
