-- The runs of the sectors that pass a test, a stretch of sectors at a time.
use Rattle.std.proofs.Common.{◌≡◌, ℕ, zero, suc, ◌+◌, ◌-◌, ◌*◌, ◌/◌, ◌<◌, ◌≤◌, min, ◌||◌, not, Bool, true, false, eqb, inl, inr, List, [], ◌∷◌, ◌++◌, length, get_or, take, refl, sym, ap, append_assoc, ◌∙◌, arith}
use Rattle.std.proofs.Math.ListN.{set}
use Rattle.std.proofs.lemmas.List.{take_all, take_more, set_split, drop_all}
use Rattle.std.proofs.Math.Bool.{or-true, or-false}
use Rattle.std.proofs.lemmas.Bool.{eq-eqb, ne_eqb, cases_eq}
use Rattle.std.proofs.lemmas.List.Folds.{list_any_more}
use Rattle.std.specs.List.{list_any}
use Rattle.std.specs.List.Sorted.{IsStrictlyIncreasing}
use Rattle.sector_model.specs.Run.{end_of, with_sector, with_run, runs_of, in_blocks, in_runs, areas_of, complement_of, AreSpacedFrom}
use Rattle.sector_model.proofs.Spacing.{none_in_gap, in_first, past_first, from_earlier}
use Rattle.sector_model.specs.declared.run.TheConstants.{BLOCK_SECTORS}
use Rattle.sector_model.specs.declared.run.Run.{Run}

pub runs_of-same : (test other : ℕ → Bool) (n : ℕ) → ((s : ℕ) → s < n → test s ≡ other s)
    → runs_of test n ≡ runs_of other n
unfolding runs_of
runs_of-same test other zero same = refl
runs_of-same test other (suc n) same =
    rw (same n (omega arith), runs_of-same test other n (λ s h. same s (omega arith))) refl

pub runs_of-skip : (test : ℕ → Bool) (n k : ℕ) → ((s : ℕ) → n ≤ s → s < n + k → test s ≡ false)
    → runs_of test (n + k) ≡ runs_of test n
unfolding runs_of
runs_of-skip test n zero none = ap (runs_of test) (omega arith)
runs_of-skip test n (suc k) none =
    let e : n + suc k ≡ suc (n + k) = omega arith in
    rw (e, none (n + k) (omega arith) (omega arith))
    (runs_of-skip test n k (λ s l h. none s l (omega arith)))

pub runs_of-run : (test : ℕ → Bool) (n k : ℕ) → ((s : ℕ) → n ≤ s → s < n + k → test s ≡ true)
    → runs_of test (n + k) ≡ with_run (runs_of test n) n k
unfolding runs_of
runs_of-run test n zero all = ap (runs_of test) (omega arith)
runs_of-run test n (suc k) all =
    let e : n + suc k ≡ suc (n + k) = omega arith in
    rw (
      e,
      all (n + k) (omega arith) (omega arith),
      runs_of-run test n k
          (λ s l h. all s l (omega arith)),
    ) refl

with_sector_last : (xs : List Run) (r : Run) (n : ℕ)
    → with_sector (xs ++ r ∷ []) n ≡ xs ++ with_sector (r ∷ []) n
with_sector_last [] r n = refl
with_sector_last (x ∷ []) r n = refl
with_sector_last (x ∷ y ∷ xs) r n = ap (λ rs. x ∷ rs) (with_sector_last (y ∷ xs) r n)

longer : (xs : List Run) (r : Run) (n : ℕ) → end_of r ≡ n
    → with_sector (xs ++ r ∷ []) n ≡ xs ++ record { first = r.first; count = r.count + 1 } ∷ []
longer xs r n ends = with_sector_last xs r n ∙ rw (eq-eqb (end_of r) n ends) refl

apart : (xs : List Run) (r : Run) (n : ℕ) → eqb (end_of r) n ≡ false
    → with_sector (xs ++ r ∷ []) n ≡ xs ++ r ∷ record { first = n; count = 1 } ∷ []
apart xs r n ends = with_sector_last xs r n ∙ rw ends refl

-- a last run that ends where the stretch begins grows by it
pub with_run-grown : (xs : List Run) (r : Run) (n k : ℕ) → end_of r ≡ n
    → with_run (xs ++ r ∷ []) n k ≡ xs ++ record { first = r.first; count = r.count + k } ∷ []
with_run-grown xs r n zero ends =
    ap (λ (c : ℕ). xs ++ record { first = r.first; count = c } ∷ []) (omega arith)
with_run-grown xs r n (suc k) ends =
    let grown : Run = record { first = r.first; count = r.count + k } in
    rw (with_run-grown xs r n k ends) (longer xs grown (n + k) (omega arith)
    ∙ ap (λ (c : ℕ). xs ++ record { first = r.first; count = c } ∷ []) (omega arith))

-- else it stands by itself, as behind no run
pub with_run-alone : (n k : ℕ) → with_run [] n (suc k) ≡ record { first = n; count = suc k } ∷ []
with_run-alone n zero = ap (λ (c : ℕ). record { first = c; count = 1 } ∷ []) (omega arith)
with_run-alone n (suc k) =
    rw (with_run-alone n k)
    (longer [] (record { first = n; count = suc k }) (n + suc k) (omega arith)
    ∙ ap (λ (c : ℕ). record { first = n; count = c } ∷ []) (omega arith))

pub with_run-apart : (xs : List Run) (r : Run) (n k : ℕ) → eqb (end_of r) n ≡ false
    → with_run (xs ++ r ∷ []) n (suc k) ≡ xs ++ r ∷ record { first = n; count = suc k } ∷ []
with_run-apart xs r n zero ends =
    let e : n + 0 ≡ n = omega arith in rw e (apart xs r n ends)
with_run-apart xs r n (suc k) ends =
    let front : List Run = xs ++ r ∷ [] in
    let stretch : Run = record { first = n; count = suc k } in
    let e : xs ++ r ∷ stretch ∷ [] ≡ front ++ stretch ∷ [] =
    sym (append_assoc xs (r ∷ []) (stretch ∷ [])) in
    rw (with_run-apart xs r n k ends, e) (longer front stretch (n + suc k) (omega arith)
    ∙ append_assoc xs (r ∷ []) _
    ∙ ap (λ (c : ℕ). xs ++ r ∷ record { first = n; count = c } ∷ []) (omega arith))

-- rs with its last run r, at index i
split_last : (rs : List Run) (i : ℕ) (r : Run) → i + 1 ≡ length rs → r ≡ get_or rs i r
    → rs ≡ take i rs ++ r ∷ []
split_last rs i r long read =
    sym (take_all (i + 1) rs (omega arith)) ∙ take_more rs i r (omega arith)
    ∙ ap (λ x. take i rs ++ x ∷ []) (sym read)

pub with_run-grown_at : (rs : List Run) (i : ℕ) (r : Run) (n k : ℕ) → i + 1 ≡ length rs
    → r ≡ get_or rs i r → end_of r ≡ n
    → set rs i (record { first = r.first; count = r.count + k }) ≡ with_run rs n k
with_run-grown_at rs i r n k long read ends =
    let grown : Run = record { first = r.first; count = r.count + k } in
    set_split rs i grown (omega arith)
    ∙ ap (λ xs. take i rs ++ grown ∷ xs) (drop_all (suc i) rs (omega arith))
    ∙ sym (ap (λ xs. with_run xs n k) (split_last rs i r long read)
    ∙ with_run-grown (take i rs) r n k ends)

pub with_run-apart_at : (rs : List Run) (i : ℕ) (r : Run) (n k : ℕ) → i + 1 ≡ length rs
    → r ≡ get_or rs i r → eqb (end_of r) n ≡ false → 0 < k
    → rs ++ record { first = n; count = k } ∷ [] ≡ with_run rs n k
with_run-apart_at rs i r n zero long read ends some = absurd (omega arith)
with_run-apart_at rs i r n (suc k) long read ends some =
    let stretch : Run = record { first = n; count = suc k } in
    ap (λ xs. xs ++ stretch ∷ []) (split_last rs i r long read)
    ∙ append_assoc (take i rs) (r ∷ []) (stretch ∷ [])
    ∙ sym (ap (λ xs. with_run xs n (suc k)) (split_last rs i r long read)
    ∙ with_run-apart (take i rs) r n k ends)

pub with_run-first : (rs : List Run) (n k : ℕ) → length rs ≡ 0 → 0 < k
    → rs ++ record { first = n; count = k } ∷ [] ≡ with_run rs n k
with_run-first [] n zero none some = absurd (omega arith)
with_run-first [] n (suc k) none some = sym (with_run-alone n k)
with_run-first (r ∷ rs) n k none some = absurd (omega arith)

-- ---- a stretch behind all others

pub runs_of-stretch : (test other : ℕ → Bool) (n k c : ℕ) → n + k ≤ c
    → ((s : ℕ) → s < n → test s ≡ other s) → ((s : ℕ) → n ≤ s → s < c → test s ≡ false)
    → ((s : ℕ) → n ≤ s → s < n + k → other s ≡ true)
    → ((s : ℕ) → n + k ≤ s → s < c → other s ≡ false)
    → with_run (runs_of test c) n k ≡ runs_of other c
runs_of-stretch test other n k c within same none all behind =
    let to_n : n + (c - n) ≡ c = omega arith in
    let to_k : n + k + (c - (n + k)) ≡ c = omega arith in
    let before : runs_of test c ≡ runs_of other n =
    ap (runs_of test) (sym to_n) ∙ runs_of-skip test n (c - n) (λ s l h. none s l (omega arith))
    ∙ runs_of-same test other n same in
    let after : runs_of other c ≡ with_run (runs_of other n) n k =
    ap (runs_of other) (sym to_k)
    ∙ runs_of-skip other (n + k) (c - (n + k)) (λ s l h. behind s l (omega arith))
    ∙ runs_of-run other n k all in
    ap (λ rs. with_run rs n k) before ∙ sym after

-- the block at i is above those before it
earlier : (xs : List ℕ) (i k : ℕ) → IsStrictlyIncreasing xs → k < i → i < length xs
    → get_or xs k 0 < get_or xs i 0
earlier xs zero k rising below within = absurd (omega arith)
earlier xs (suc i) k rising below within =
    let step : get_or xs i 0 < get_or xs (i + 1) 0 = rising i (omega arith) in
    let next : i + 1 ≡ suc i = omega arith in
    let step_suc : get_or xs i 0 < get_or xs (suc i) 0 = rw next at step in
    elim (cases_eq k i) [
      | inl e ↦ rw e step_suc
      | inr ne ↦ let more = earlier xs i k rising (omega (arith, ne)) (omega arith) in
          omega (arith, more, step_suc)
    ]

none_of_front : (xs : List ℕ) (i x : ℕ) → ((k : ℕ) → k < i → k < length xs → get_or xs k 0 < x)
    → list_any (eqb x) (take i xs) ≡ false
none_of_front xs zero x below = refl
none_of_front [] (suc i) x below = refl
none_of_front (y ∷ xs) (suc i) x below =
    let first : y < x = below 0 (omega arith) (omega arith) in
    let ne : x ≡ y → ⊥ = λ e. absurd (omega arith) in
    rw (ne_eqb x y ne) (none_of_front xs i x (λ k l w. below (suc k) (omega arith) (omega arith)))

pub areas-more : (blocks : List ℕ) (i b c : ℕ) → IsStrictlyIncreasing blocks → i < length blocks
    → b ≡ get_or blocks i 0 → BLOCK_SECTORS * b < c
    → with_run (areas_of c (take i blocks)) (BLOCK_SECTORS * b)
    (min BLOCK_SECTORS (c - BLOCK_SECTORS * b)) ≡ areas_of c (take (i + 1) blocks)
areas-more blocks i b c rising within read below =
    let joined : (s : ℕ) → in_blocks (take (i + 1) blocks) s
    ≡ (in_blocks (take i blocks) s || eqb (s / 128) b) =
    λ s. list_any_more (eqb (s / 128)) blocks i 0 within
    ∙ ap (λ y. in_blocks (take i blocks) s || eqb (s / 128) y) (sym read) in
    let none_earlier : (s : ℕ) → b ≤ s / 128 → in_blocks (take i blocks) s ≡ false =
    λ s from. none_of_front blocks i (s / 128)
    (λ k l w. let h = earlier blocks i k rising l within in omega (arith, h, read)) in
    runs_of-stretch (in_blocks (take i blocks)) (in_blocks (take (i + 1) blocks)) (128 * b)
    (min 128 (c - 128 * b)) c (omega arith)
    (λ s before. let ne : s / 128 ≡ b → ⊥ = λ e. absurd (omega arith) in
    sym (joined s ∙ ap (λ y. in_blocks (take i blocks) s || y) (ne_eqb (s / 128) b ne)
    ∙ or-false (in_blocks (take i blocks) s)))
    (λ s from before. none_earlier s (omega arith))
    (λ s from before. joined s
    ∙ ap (λ y. in_blocks (take i blocks) s || y) (eq-eqb (s / 128) b (omega arith))
    ∙ or-true (in_blocks (take i blocks) s))
    (λ s from before. let ne : s / 128 ≡ b → ⊥ = λ e. absurd (omega arith) in
    joined s ∙ rw (none_earlier s (omega arith), ne_eqb (s / 128) b ne) refl)

pub areas-none : (c : ℕ) → [] ≡ areas_of c []
unfolding runs_of
areas-none c = let from_zero : 0 + c ≡ c = omega arith in
    sym (ap (runs_of (in_blocks [])) (sym from_zero)
    ∙ runs_of-skip (in_blocks []) 0 c (λ s l h. refl))

pub runs_of-none : (test : ℕ → Bool) → [] ≡ runs_of test 0
unfolding runs_of
runs_of-none test = refl

-- ---- the complement, a run at a time

-- from sector `at` on it is said by the runs that are left
pub record Left (all rest : List Run) (at : ℕ) : Type 0 where
  pub same : (s : ℕ) → at ≤ s → in_runs all s ≡ in_runs rest s
  pub spaced : AreSpacedFrom at rest

pub gap-before : (all : List Run) (r : Run) (rest : List Run) (at : ℕ) → Left all (r ∷ rest) at
    → with_run (runs_of (λ s. not (in_runs all s)) at) at (r.first - at)
    ≡ runs_of (λ s. not (in_runs all s)) (end_of r)
gap-before all r rest at h =
    let test : ℕ → Bool = λ s. not (in_runs all s) in
    let to_first : at + (r.first - at) ≡ r.first = omega (arith, h.spaced.0) in
    let free : (s : ℕ) → at ≤ s → s < at + (r.first - at) → test s ≡ true =
    λ s from before. ap not (h.same s from ∙ none_in_gap at r rest s h.spaced (omega arith)) in
    let held : (s : ℕ) → r.first ≤ s → s < r.first + r.count → test s ≡ false =
    λ s from before. ap not (h.same s (omega (arith, h.spaced.0)) ∙ in_first r rest s from before)
    in
    sym (runs_of-run test at (r.first - at) free) ∙ ap (runs_of test) to_first
    ∙ sym (runs_of-skip test r.first r.count held)

pub left-after : (all : List Run) (r : Run) (rest : List Run) (at : ℕ) → Left all (r ∷ rest) at
    → Left all rest (end_of r)
left-after all r rest at h =
    record {
      same = λ s from. h.same s (omega (arith, h.spaced.0)) ∙ past_first r rest s from;
      spaced = from_earlier (end_of r + 1) (end_of r) rest h.spaced.2 (omega arith);
    }

pub gap-behind : (all : List Run) (at c : ℕ) → Left all [] at → at ≤ c
    → with_run (runs_of (λ s. not (in_runs all s)) at) at (c - at) ≡ complement_of c all
gap-behind all at c h within =
    let test : ℕ → Bool = λ s. not (in_runs all s) in
    let to_end : at + (c - at) ≡ c = omega arith in
    sym (runs_of-run test at (c - at) (λ s from before. ap not (h.same s from)))
    ∙ ap (runs_of test) to_end
