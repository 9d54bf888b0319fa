-- A page lies between its start and the capacity, and its areas in it.
use Rattle.std.proofs.Common.{◌≡◌, ℕ, zero, suc, ◌+◌, ◌-◌, ◌<◌, ◌≤◌, Bool, true, false, cond, ltb, List, [], ◌∷◌, length, get_or, take, refl, sym, subst, arith, inl, inr, length-take}
use Rattle.std.specs.List.{AllByRecursion, All}
use Rattle.std.proofs.lemmas.Bool.{ltb-true, ltb-false, cases_lt}
use Rattle.std.proofs.lemmas.List.Elements.{recursion_from_All, All-from_recursion}
use Rattle.basics.proofs.Each.{each_taken}
use Rattle.sector_model.specs.Run.{end_of, AreSpacedFrom, AreSpaced}
use Rattle.sector_model.specs.Page.{areas_from, page_from, LiesWithin}
use Rattle.sector_model.specs.declared.run.Run.{Run}
use Rattle.sector_model.proofs.Spacing.{ends_rise, spaced-bound}
use Rattle.sector_model.specs.declared.page.TheConstants.{PAGE_AREAS}
use Rattle.sector_model.proofs.PageLaws.{kept, dropped, areas_from-spaced, ends_behind}

pub spaced-take : (m n : ℕ) (rs : List Run) → AreSpacedFrom m rs → AreSpacedFrom m (take n rs)
spaced-take m zero rs h = spaced-bound m rs h
spaced-take m (suc n) [] h = h
spaced-take m (suc n) (r ∷ rs) h = (h.0, h.1, spaced-take (end_of r + 1) n rs h.2)

-- what is told from a sector on begins there or later, and ends by the capacity
begins : (c start : ℕ) (r : Run) → start < end_of r → end_of r ≤ c → (b : Bool)
    → ltb r.first start ≡ b
    → (start ≤ (cond b (record { first = start; count = end_of r - start }) r).first)
    × (end_of (cond b (record { first = start; count = end_of r - start }) r) ≤ c)
begins c start r past ends true e = (omega arith, omega arith)
begins c start r past ends false e = let h = ltb-false r.first start e in (h, ends)

areas_from-inside : (c start : ℕ) (rs : List Run) → AllByRecursion (λ r. end_of r ≤ c) rs
    → AllByRecursion (λ r. (start ≤ r.first) × (end_of r ≤ c)) (areas_from start rs)
areas_from-inside c start [] ends = tt
areas_from-inside c start (r ∷ rs) ends =
    elim (cases_lt start (end_of r)) [
      | inl past ↦
          subst (AllByRecursion (λ (q : Run). (start ≤ q.first) × (end_of q ≤ c)))
          (sym (kept start r rs past)) (
            begins c start r past ends.0 (ltb r.first start) refl,
            areas_from-inside c start rs
                ends.1,
          )
      | inr over ↦
          subst (AllByRecursion (λ (q : Run). (start ≤ q.first) × (end_of q ≤ c)))
          (sym (dropped start r rs over)) (areas_from-inside c start rs ends.1)
    ]

firsts : (P Q : Run → Type 0) (rs : List Run) → AllByRecursion (λ r. P r × Q r) rs
    → AllByRecursion P rs
firsts P Q [] h = tt
firsts P Q (r ∷ rs) h = (h.0.0, firsts P Q rs h.1)

seconds : (P Q : Run → Type 0) (rs : List Run) → AllByRecursion (λ r. P r × Q r) rs
    → AllByRecursion Q rs
seconds P Q [] h = tt
seconds P Q (r ∷ rs) h = (h.0.1, seconds P Q rs h.1)

-- the first n of spaced runs end by the end of the last of them
ends-take : (n : ℕ) (rs : List Run) (e : ℕ)
    → ((k : ℕ) (d : Run) → k < n → k < length rs → end_of (get_or rs k d) ≤ e)
    → AllByRecursion (λ r. end_of r ≤ e) (take n rs)
ends-take zero rs e each = tt
ends-take (suc n) [] e each = tt
ends-take (suc n) (r ∷ rs) e each = (
  each 0 r (omega arith) (omega arith),
  ends-take n rs e
      (λ k d less within. each (suc k) d (omega arith) (omega arith)),
)

loosened : (c e : ℕ) (rs : List Run) → c ≤ e → AllByRecursion (λ r. end_of r ≤ c) rs
    → AllByRecursion (λ r. end_of r ≤ e) rs
loosened c e [] le h = tt
loosened c e (r ∷ rs) le h = (omega (arith, h.0), loosened c e rs le h.1)

all_at : (c : ℕ) (rs : List Run) (k : ℕ) (d : Run) → k < length rs
    → AllByRecursion (λ r. end_of r ≤ c) rs → end_of (get_or rs k d) ≤ c
all_at c [] k d within h = absurd (omega arith)
all_at c (r ∷ rs) zero d within h = h.0
all_at c (r ∷ rs) (suc k) d within h = all_at c rs k d (omega arith) h.1

-- a read within a list is the same by any default
same_default : (rs : List Run) (k : ℕ) (x d : Run) → k < length rs → (e : ℕ)
    → end_of (get_or rs k d) ≤ e → end_of (get_or rs k x) ≤ e
same_default [] k x d within e h = absurd (omega arith)
same_default (r ∷ rs) zero x d within e h = h
same_default (r ∷ rs) (suc k) x d within e h = same_default rs k x d (omega arith) e h

pub record Ends (start c e : ℕ) (rs : List Run) : Type 0 where
  pub above : start < e
  pub within : e ≤ c
  pub areas : AllByRecursion (λ r. end_of r ≤ e) (take PAGE_AREAS rs)

ends_at : (b : Bool) (c start : ℕ) (areas : List Run)
    → ltb PAGE_AREAS (length (areas_from start areas)) ≡ b → AreSpaced areas
    → AllByRecursion (λ r. end_of r ≤ c) areas → start < c
    → Ends start c (cond b
    (end_of (get_or (areas_from start areas) (PAGE_AREAS - 1)
    (record { first = 0; count = 0 }))) c) (areas_from start areas)
ends_at true c start areas more spaced ends before =
    let rest = areas_from start areas in
    let d : Run = record { first = 0; count = 0 } in
    let long : PAGE_AREAS < length rest = ltb-true PAGE_AREAS (length rest) more in
    let spaced_rest : AreSpaced rest = areas_from-spaced 0 start areas spaced in
    let inside = seconds (λ q. start ≤ q.first) (λ q. end_of q ≤ c) rest
    (areas_from-inside c start areas ends) in
    record {
      above = ends_behind start areas (PAGE_AREAS - 1) d (omega arith);
      within = all_at c rest (PAGE_AREAS - 1) d (omega arith) inside;
      areas = ends-take PAGE_AREAS rest (end_of (get_or rest (PAGE_AREAS - 1) d))
          (λ k x less within. let rise = ends_rise 0 rest spaced_rest k (PAGE_AREAS - 1) d
          (omega arith) (omega arith) in same_default rest k x d within _ rise);
    }
ends_at false c start areas few spaced ends before =
    let rest = areas_from start areas in
    record {
      above = before;
      within = omega arith;
      areas = each_taken (λ q. end_of q ≤ c) PAGE_AREAS rest
          (seconds (λ q. start ≤ q.first) (λ q. end_of q ≤ c) rest
          (areas_from-inside c start areas ends));
    }

pub page_lies_within : (c : ℕ) (areas : List Run) (start : ℕ) → AreSpaced areas
    → All (λ r. end_of r ≤ c) areas → start < c → LiesWithin c (page_from c areas start)
page_lies_within c areas start spaced all before =
    let ends = recursion_from_All (λ r. end_of r ≤ c) areas all in
    let rest = areas_from start areas in
    let e : ℕ = start + (page_from c areas start).length in
    let h = ends_at (ltb PAGE_AREAS (length rest)) c start areas refl spaced ends before in
    record {
      some = omega (arith, h.above);
      within = omega (arith, h.above, h.within);
      few = omega (arith, length-take PAGE_AREAS rest);
      spaced = spaced-take 0 PAGE_AREAS rest (areas_from-spaced 0 start areas spaced);
      begin_inside = All-from_recursion (λ r. start ≤ r.first) (take PAGE_AREAS rest)
          (each_taken (λ r. start ≤ r.first) PAGE_AREAS rest
          (firsts (λ q. start ≤ q.first) (λ q. end_of q ≤ c) rest
          (areas_from-inside c start areas ends)));
      end_inside = All-from_recursion (λ r. end_of r ≤ e) (take PAGE_AREAS rest)
          (loosened _ e (take PAGE_AREAS rest) (omega (arith, h.above)) h.areas);
    }
