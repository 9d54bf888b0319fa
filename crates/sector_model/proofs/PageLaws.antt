-- Pages of areas join to the whole list.
use Rattle.std.proofs.Common.{◌≡◌, ℕ, zero, suc, ◌+◌, ◌-◌, ◌<◌, ◌≤◌, Bool, true, false, cond, ltb, List, [], ◌∷◌, ◌++◌, length, get_or, take, drop, refl, sym, ap, subst, ◌∙◌, arith, inl, inr}
use Rattle.std.specs.List.{AllByRecursion, All, flat_map}
use Rattle.std.proofs.lemmas.Bool.{le-ltb, lt-ltb, ltb-true, ltb-false, cases_lt}
use Rattle.std.proofs.lemmas.List.{take-append-drop, take_all, append-nil}
use Rattle.std.proofs.lemmas.List.Elements.{recursion_from_All}
use Rattle.sector_model.specs.Run.{end_of, from_sector, AreSpacedFrom, AreSpaced}
use Rattle.sector_model.specs.Page.{PageContents, areas_from, page_from, ArePages}
use Rattle.sector_model.specs.declared.run.Run.{Run}
use Rattle.sector_model.proofs.Spacing.{from_earlier, ends_past}

-- ---- one run, from a sector on

pub record Clipped (r : Run) (start m : ℕ) : Type 0 where
  pub same_end : end_of (from_sector start r) ≡ end_of r
  pub from : m ≤ (from_sector start r).first
  pub some : 0 < (from_sector start r).count

clip_at : (b : Bool) (r : Run) (start m : ℕ) → ltb r.first start ≡ b → start < end_of r
    → m ≤ r.first → 0 < r.count
    → (end_of (cond b (record { first = start; count = end_of r - start }) r) ≡ end_of r)
    × ((m ≤ (cond b (record { first = start; count = end_of r - start }) r).first)
    × (0 < (cond b (record { first = start; count = end_of r - start }) r).count))
clip_at true r start m e past from some = let h = ltb-true r.first start e in
    (omega arith, (omega arith, omega arith))
clip_at false r start m e past from some = (refl, (from, some))

pub clip : (r : Run) (start m : ℕ) → start < end_of r → m ≤ r.first → 0 < r.count
    → Clipped r start m
clip r start m past from some = let h = clip_at (ltb r.first start) r start m refl past from some in
    record { same_end = h.0; from = h.1.0; some = h.1.1 }

-- ---- areas from a sector on

pub kept : (start : ℕ) (r : Run) (rs : List Run) → start < end_of r
    → areas_from start (r ∷ rs) ≡ from_sector start r ∷ areas_from start rs
kept start r rs past = rw (lt-ltb start (end_of r) past) refl

pub dropped : (start : ℕ) (r : Run) (rs : List Run) → end_of r ≤ start
    → areas_from start (r ∷ rs) ≡ areas_from start rs
dropped start r rs past = rw (le-ltb start (end_of r) past) refl

pub areas_from-spaced : (m start : ℕ) (rs : List Run) → AreSpacedFrom m rs
    → AreSpacedFrom m (areas_from start rs)
areas_from-spaced m start [] h = h
areas_from-spaced m start (r ∷ rs) h =
    elim (cases_lt start (end_of r)) [
      | inl past ↦
          let c = clip r start m past h.0 h.1 in
          let more : AreSpacedFrom (end_of (from_sector start r) + 1) (areas_from start rs) =
          rw c.same_end (areas_from-spaced (end_of r + 1) start rs h.2) in
          rw (kept start r rs past) (c.from, c.some, more)
      | inr over ↦ rw (dropped start r rs over)
          (from_earlier (end_of r + 1) m (areas_from start rs)
          (areas_from-spaced (end_of r + 1) start rs h.2) (omega (arith, h.0)))
    ]

-- nothing is clipped where all begin behind the sector
pub areas_from-later : (start m : ℕ) (rs : List Run) → AreSpacedFrom m rs → start ≤ m
    → areas_from start rs ≡ rs
areas_from-later start m [] h le = refl
areas_from-later start m (r ∷ rs) h le =
    let past : start < end_of r = omega (arith, h.0, h.1) in
    kept start r rs past ∙ rw (
      le-ltb r.first start (omega (arith, h.0)),
      areas_from-later start (end_of r + 1) rs h.2
          (omega (arith, h.0)),
    ) refl

clip_end_at : (b : Bool) (r : Run) (start : ℕ) → start < end_of r
    → end_of (cond b (record { first = start; count = end_of r - start }) r) ≡ end_of r
clip_end_at true r start past = omega arith
clip_end_at false r start past = refl

pub clip_end : (r : Run) (start : ℕ) → start < end_of r → end_of (from_sector start r) ≡ end_of r
clip_end r start past = clip_end_at (ltb r.first start) r start past

behind_first : (start : ℕ) (r : Run) (rs : List Run) (k : ℕ) (d : Run) → start < end_of r
    → k < length (from_sector start r ∷ areas_from start rs)
    → ((j : ℕ) → j < length (areas_from start rs)
    → start < end_of (get_or (areas_from start rs) j d))
    → start < end_of (get_or (from_sector start r ∷ areas_from start rs) k d)
behind_first start r rs zero d past within later = let e = clip_end r start past in omega (arith, e)
behind_first start r rs (suc k) d past within later = later k (omega arith)

-- from the end of the area at k on, those behind it are left
areas_from-end : (m : ℕ) (rs : List Run) (k : ℕ) (d : Run) → AreSpacedFrom m rs → k < length rs
    → areas_from (end_of (get_or rs k d)) rs ≡ drop (suc k) rs
areas_from-end m [] k d h within = absurd (omega arith)
areas_from-end m (r ∷ rs) zero d h within =
    dropped (end_of r) r rs (omega arith)
    ∙ areas_from-later (end_of r) (end_of r + 1) rs h.2 (omega arith)
areas_from-end m (r ∷ rs) (suc k) d h within =
    dropped (end_of (get_or rs k d)) r rs
    (let past = ends_past (end_of r + 1) rs k d h.2 (omega arith) in omega (arith, past))
    ∙ areas_from-end (end_of r + 1) rs k d h.2 (omega arith)

from_sector-twice : (b : Bool) (start later : ℕ) (r : Run) → ltb r.first start ≡ b → start ≤ later
    → later < end_of r
    → from_sector later (cond b (record { first = start; count = end_of r - start }) r)
    ≡ from_sector later r
from_sector-twice true start later r e le past =
    let under = ltb-true r.first start e in
    elim (cases_lt start later) [
      | inl lt ↦ rw (lt-ltb start later lt, lt-ltb r.first later (omega arith))
          (ap (λ (n : ℕ). record { first = later; count = n }) (omega arith))
      | inr ge ↦ let same : start ≡ later = omega arith in
          rw (le-ltb start later ge, lt-ltb r.first later (omega arith))
          (ap (λ (at : ℕ). record { first = at; count = end_of r - at }) same)
    ]
from_sector-twice false start later r e le past = refl

areas_from-twice : (start later : ℕ) (rs : List Run) → start ≤ later
    → areas_from later (areas_from start rs) ≡ areas_from later rs
areas_from-twice start later [] le = refl
areas_from-twice start later (r ∷ rs) le =
    elim (cases_lt later (end_of r)) [
      | inl past ↦
          let e : end_of (from_sector start r) ≡ end_of r = (clip_end r start (omega arith)) in
          ap (areas_from later) (kept start r rs (omega arith))
          ∙ kept later (from_sector start r) (areas_from start rs) (omega (arith, e))
          ∙ rw (
            from_sector-twice (ltb r.first start) start later r refl le past,
            areas_from-twice
                start later rs le,
          ) (sym (kept later r rs past))
      | inr over ↦
          elim (cases_lt start (end_of r)) [
            | inl past ↦
                let e : end_of (from_sector start r) ≡ end_of r = (clip_end r start past) in
                ap (areas_from later) (kept start r rs past)
                ∙ dropped later (from_sector start r) (areas_from start rs) (omega (arith, e))
                ∙ areas_from-twice start later rs le ∙ sym (dropped later r rs over)
            | inr under ↦ ap (areas_from later) (dropped start r rs under)
                ∙ areas_from-twice start later rs le ∙ sym (dropped later r rs over)
          ]
    ]

-- what is told from a sector on ends behind it
pub ends_behind : (start : ℕ) (rs : List Run) (k : ℕ) (d : Run) → k < length (areas_from start rs)
    → start < end_of (get_or (areas_from start rs) k d)
ends_behind start [] k d within = absurd (omega arith)
ends_behind start (r ∷ rs) k d within =
    elim (cases_lt start (end_of r)) [
      | inl past ↦
          let all = kept start r rs past in
          let w : k < length (from_sector start r ∷ areas_from start rs) =
          subst (λ (xs : List Run). k < length xs) all within in
          subst (λ (xs : List Run). start < end_of (get_or xs k d)) (sym all)
          (behind_first start r rs k d past w (λ j l. ends_behind start rs j d l))
      | inr over ↦
          let all = dropped start r rs over in
          let w : k < length (areas_from start rs) =
          subst (λ (xs : List Run). k < length xs) all within in
          subst (λ (xs : List Run). start < end_of (get_or xs k d)) (sym all)
          (ends_behind start rs k d w)
    ]

areas_from-capacity : (c : ℕ) (rs : List Run) → AllByRecursion (λ r. end_of r ≤ c) rs
    → areas_from c rs ≡ []
areas_from-capacity c [] h = refl
areas_from-capacity c (r ∷ rs) h = dropped c r rs h.0 ∙ areas_from-capacity c rs h.1

-- ---- a page and what follows it

page_then : (b : Bool) (c : ℕ) (areas : List Run) (start : ℕ)
    → ltb 1024 (length (areas_from start areas)) ≡ b → AreSpaced areas
    → All (λ r. end_of r ≤ c) areas → start < c
    → areas_from start areas ≡ take 1024 (areas_from start areas) ++ areas_from
    (start + (cond b (end_of
    (get_or (areas_from start areas) 1023 (record { first = 0; count = 0 }))) c - start)) areas
page_then true c areas start e spaced ends before =
    let rest = areas_from start areas in
    let none : Run = record { first = 0; count = 0 } in
    let more : 1024 < length rest = ltb-true 1024 (length rest) e in
    let behind : start < end_of (get_or rest 1023 none) =
    ends_behind start areas 1023 none (omega arith) in
    let to_end : start + (end_of (get_or rest 1023 none) - start) ≡ end_of (get_or rest 1023 none) =
    omega arith in
    let left : areas_from (start + (end_of (get_or rest 1023 none) - start)) areas
    ≡ drop 1024 rest =
    ap (λ (at : ℕ). areas_from at areas) to_end
    ∙ sym (areas_from-twice start (end_of (get_or rest 1023 none)) areas (omega arith))
    ∙ areas_from-end 0 rest 1023 none (areas_from-spaced 0 start areas spaced) (omega arith) in
    sym (ap (λ xs. take 1024 rest ++ xs) left ∙ take-append-drop 1024 rest)
page_then false c areas start e spaced ends before =
    let rest = areas_from start areas in
    let few : length rest ≤ 1024 = ltb-false 1024 (length rest) e in
    let to_end : start + (c - start) ≡ c = omega arith in
    let left : areas_from (start + (c - start)) areas ≡ [] =
    ap (λ (at : ℕ). areas_from at areas) to_end
    ∙ areas_from-capacity c areas (recursion_from_All (λ r. end_of r ≤ c) areas ends) in
    sym (ap (λ xs. take 1024 rest ++ xs) left ∙ append-nil (take 1024 rest)
    ∙ take_all 1024 rest few)

pub page_then_rest : (c : ℕ) (areas : List Run) (start : ℕ) → AreSpaced areas
    → All (λ r. end_of r ≤ c) areas → start < c
    → areas_from start areas
    ≡ (page_from c areas start).areas ++ areas_from (start + (page_from c areas start).length)
    areas
page_then_rest c areas start spaced ends before =
    page_then (ltb 1024 (length (areas_from start areas))) c areas start refl spaced ends before

pub pages_joined : (c : ℕ) (areas : List Run) (start : ℕ) (pages : List PageContents)
    → AreSpaced areas → All (λ r. end_of r ≤ c) areas
    → ArePages c areas start pages → flat_map (λ p. p.areas) pages ≡ areas_from start areas
pages_joined c areas start [] spaced ends all =
    sym (rw all (areas_from-capacity c areas (recursion_from_All (λ r. end_of r ≤ c) areas ends)))
pages_joined c areas start (p ∷ ps) spaced ends all =
    let more = pages_joined c areas (start + p.length) ps spaced ends all.2 in
    ap (λ xs. p.areas ++ xs) more
    ∙ ap (λ (q : PageContents). q.areas ++ areas_from (start + q.length) areas) all.1
    ∙ sym (page_then_rest c areas start spaced ends all.0)
