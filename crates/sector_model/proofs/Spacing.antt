-- Spaced runs: what is made of sectors is spaced, and what follows of sums, order and members.
use Rattle.std.proofs.Common.{◌≡◌, ℕ, zero, suc, ◌+◌, ◌^◌, ◌<◌, ◌≤◌, Bool, true, false, cond, eqb, List, [], ◌∷◌, length, get_or, refl, arith}
use Rattle.std.specs.List.{AllByRecursion, sum_by, find, slice_get}
use Rattle.std.proofs.lemmas.Bool.{eqb-true, eqb-false, le-ltb, lt-ltb, le-leb, lt-leb}
use Rattle.std.proofs.lemmas.List.Sums.{sum_by-cons}
use Rattle.sector_model.specs.Run.{end_of, in_runs, AreSpacedFrom, AreSpaced, with_sector, runs_of, areas_of, in_blocks}
use Rattle.sector_model.specs.declared.run.Run.{Run}

EndBy : ℕ → List Run → Type 0
EndBy n runs = AllByRecursion (λ r. end_of r ≤ n) runs

-- ---- what is made of sectors

pub record SpacedWithin (m n : ℕ) (runs : List Run) : Type 0 where
  pub spaced : AreSpacedFrom m runs
  pub ends : AllByRecursion (λ r. end_of r ≤ n) runs

later_ends : (runs : List Run) (n : ℕ) → AllByRecursion (λ r. end_of r ≤ n) runs
    → AllByRecursion (λ r. end_of r ≤ suc n) runs
later_ends [] n h = tt
later_ends (r ∷ rs) n h = (omega arith, later_ends rs n h.1)

grown_last : (b : Bool) (m : ℕ) (r : Run) (n : ℕ) → eqb (end_of r) n ≡ b → m ≤ r.first → 0 < r.count
    → end_of r ≤ n → suc n < 2 ^ 64
    → SpacedWithin m (suc n)
    (cond b (record { first = r.first; count = r.count + 1 } ∷ [])
    (r ∷ record { first = n; count = 1 } ∷ []))
grown_last true m r n e from some ends fits =
    let here : end_of r ≡ n = eqb-true _ _ e in
    record { spaced = (from, omega arith, omega arith); ends = (omega arith, tt) }
grown_last false m r n e from some ends fits =
    let apart : end_of r < n = let h = eqb-false (end_of r) n e in omega (arith, h) in
    record {
      spaced = (from, some, (omega arith, omega arith, omega arith));
      ends =
          (omega arith, (omega arith, tt));
    }

grown : (m : ℕ) (r : Run) (rs : List Run) (n : ℕ) → AreSpacedFrom m (r ∷ rs)
    → AllByRecursion (λ q. end_of q ≤ n) (r ∷ rs) → suc n < 2 ^ 64
    → SpacedWithin m (suc n) (with_sector (r ∷ rs) n)
grown m r [] n spaced ends fits =
    grown_last (eqb (end_of r) n) m r n refl spaced.0 spaced.1 ends.0 fits
grown m r (q ∷ rs) n spaced ends fits =
    let more = grown (end_of r + 1) q rs n spaced.2 ends.1 fits in
    record { spaced = (spaced.0, spaced.1, more.spaced); ends = (omega arith, more.ends) }

grown_any : (rs : List Run) (n : ℕ) → SpacedWithin 0 n rs → suc n < 2 ^ 64
    → SpacedWithin 0 (suc n) (with_sector rs n)
grown_any [] n h fits =
    record { spaced = (omega arith, omega arith, omega arith); ends = (omega arith, tt) }
grown_any (r ∷ rs) n h fits = grown 0 r rs n h.spaced h.ends fits

spaced_step : (b : Bool) (rs : List Run) (n : ℕ) → SpacedWithin 0 n rs → suc n < 2 ^ 64
    → SpacedWithin 0 (suc n) (cond b (with_sector rs n) rs)
spaced_step true rs n h fits = grown_any rs n h fits
spaced_step false rs n h fits = record { spaced = h.spaced; ends = later_ends rs n h.ends }

pub runs_of-spaced : (test : ℕ → Bool) (n : ℕ) → n < 2 ^ 64 → SpacedWithin 0 n (runs_of test n)
unfolding runs_of
runs_of-spaced test zero fits = record { spaced = omega arith; ends = tt }
runs_of-spaced test (suc n) fits =
    spaced_step (test n) (runs_of test n) n (runs_of-spaced test n (omega arith)) fits

-- so are the areas of blocks
pub areas_of-spaced : (c : ℕ) (blocks : List ℕ) → c < 2 ^ 64
    → SpacedWithin 0 c (areas_of c blocks)
areas_of-spaced c blocks fits = runs_of-spaced (in_blocks blocks) c fits

-- ---- sums

sum_within : (m : ℕ) (rs : List Run) → AreSpacedFrom m rs → sum_by (λ r. r.count) rs + m ≤ 2 ^ 64
sum_within m [] h = omega arith
sum_within m (r ∷ rs) h =
    let e = sum_by-cons (λ (q : Run). q.count) r rs in
    let more = sum_within (end_of r + 1) rs h.2 in
    omega (arith, e, more, h.0)

pub sum_fits : (rs : List Run) → AreSpaced rs → sum_by (λ r. r.count) rs < 2 ^ 64
sum_fits [] h = omega arith
sum_fits (r ∷ rs) h =
    let e = sum_by-cons (λ (q : Run). q.count) r rs in
    let more = sum_within (end_of r + 1) rs h.2 in
    omega (arith, e, more, h.0)

-- ---- order

pub ends_past : (m : ℕ) (rs : List Run) (j : ℕ) (d : Run) → AreSpacedFrom m rs → j < length rs
    → m ≤ end_of (get_or rs j d)
ends_past m [] j d h within = absurd (omega arith)
ends_past m (r ∷ rs) zero d h within = omega (arith, h.0)
ends_past m (r ∷ rs) (suc j) d h within = let more =
    ends_past (end_of r + 1) rs j d h.2 (omega arith) in omega (arith, more, h.0)

pub ends_rise : (m : ℕ) (rs : List Run) → AreSpacedFrom m rs → (i j : ℕ) (d : Run) → i ≤ j
    → j < length rs → end_of (get_or rs i d) ≤ end_of (get_or rs j d)
ends_rise m [] h i j d le within = absurd (omega arith)
ends_rise m (r ∷ rs) h zero zero d le within = omega arith
ends_rise m (r ∷ rs) h zero (suc j) d le within = let more =
    ends_past (end_of r + 1) rs j d h.2 (omega arith) in omega (arith, more)
ends_rise m (r ∷ rs) h (suc i) zero d le within = absurd (omega arith)
ends_rise m (r ∷ rs) h (suc i) (suc j) d le within =
    ends_rise (end_of r + 1) rs h.2 i j d (omega arith) (omega arith)

pub find_at : {X : Type 0} (p : X → Bool) (xs : List X) (i : ℕ)
    → ((k : ℕ) (d : X) → k < i → k < length xs → p (get_or xs k d) ≡ false)
    → ((d : X) → i < length xs → p (get_or xs i d) ≡ true) → find p xs ≡ slice_get xs i
find_at p [] i below here = refl
find_at p (x ∷ xs) zero below here = rw (here x (omega arith)) refl
find_at p (x ∷ xs) (suc i) below here =
    rw (below 0 x (omega arith) (omega arith))
    (find_at p xs i (λ k d l w. below (suc k) d (omega arith) (omega arith))
    (λ d w. here d (omega arith)))

-- ---- members

pub none_before : (m : ℕ) (rs : List Run) (s : ℕ) → AreSpacedFrom m rs → s < m
    → in_runs rs s ≡ false
none_before m [] s h before = refl
none_before m (r ∷ rs) s h before =
    rw (lt-leb r.first s (omega (arith, h.0)))
    (none_before (end_of r + 1) rs s h.2 (omega (arith, h.0)))

pub none_in_gap : (m : ℕ) (r : Run) (rs : List Run) (s : ℕ) → AreSpacedFrom m (r ∷ rs) → s < r.first
    → in_runs (r ∷ rs) s ≡ false
none_in_gap m r rs s h before =
    rw (lt-leb r.first s before) (none_before (end_of r + 1) rs s h.2 (omega arith))

pub in_first : (r : Run) (rs : List Run) (s : ℕ) → r.first ≤ s → s < end_of r
    → in_runs (r ∷ rs) s ≡ true
in_first r rs s from before = rw (le-leb r.first s from, lt-ltb s (end_of r) before) refl

pub past_first : (r : Run) (rs : List Run) (s : ℕ) → end_of r ≤ s
    → in_runs (r ∷ rs) s ≡ in_runs rs s
past_first r rs s past = rw (le-leb r.first s (omega arith), le-ltb s (end_of r) past) refl

pub spaced-bound : (m : ℕ) (rs : List Run) → AreSpacedFrom m rs → m ≤ 2 ^ 64
spaced-bound m [] spaced = spaced
spaced-bound m (r ∷ rs) spaced = let more = spaced-bound (end_of r + 1) rs spaced.2 in
    omega (arith, more, spaced.0, spaced.1)

pub from_earlier : (m n : ℕ) (rs : List Run) → AreSpacedFrom m rs → n ≤ m → AreSpacedFrom n rs
from_earlier m n [] h le = omega arith
from_earlier m n (r ∷ rs) h le = (omega (arith, h.0), h.1, h.2)
