-- How many sectors blocks have below a sector.
use Rattle.std.proofs.Common.{◌≡◌, ℕ, zero, suc, ◌+◌, ◌-◌, ◌<◌, ◌≤◌, List, [], ◌∷◌, Bool, true, false, cond, eqb, ap, subst, ◌∙◌, arith}
use Rattle.std.specs.List.{sum_by}
use Rattle.std.proofs.lemmas.List.Sums.{sum_by-cons}
use Rattle.sector_model.specs.Run.{end_of, in_blocks, with_sector, runs_of}
use Rattle.sector_model.specs.declared.run.Run.{Run}
use Rattle.warm_core.specs.StageState.{sectors_below}

-- a sector more is one more
sum-last : (b : Bool) (r : Run) (n : ℕ)
    → sum_by (λ (q : Run). q.count)
    (cond b (record { first = r.first; count = r.count + 1 } ∷ [])
    (r ∷ record { first = n; count = 1 } ∷ [])) ≡ r.count + 1
sum-last true r n = let one =
    sum_by-cons (λ (q : Run). q.count) (record { first = r.first; count = r.count + 1 }) [] in
    omega (arith, one)
sum-last false r n =
    let one = sum_by-cons (λ (q : Run). q.count) (record { first = n; count = 1 }) [] in
    let all = sum_by-cons (λ (q : Run). q.count) r (record { first = n; count = 1 } ∷ []) in
    omega (arith, one, all)

sum-with_sector : (rs : List Run) (n : ℕ)
    → sum_by (λ (q : Run). q.count) (with_sector rs n) ≡ sum_by (λ (q : Run). q.count) rs + 1
sum-with_sector [] n = let one =
    sum_by-cons (λ (q : Run). q.count) (record { first = n; count = 1 }) [] in omega (arith, one)
sum-with_sector (r ∷ []) n =
    let last = sum-last (eqb (end_of r) n) r n in
    let one = sum_by-cons (λ (q : Run). q.count) r [] in
    omega (arith, last, one)
sum-with_sector (r ∷ q ∷ rs) n =
    let new = sum_by-cons (λ (x : Run). x.count) r (with_sector (q ∷ rs) n) in
    let old = sum_by-cons (λ (x : Run). x.count) r (q ∷ rs) in
    let more = sum-with_sector (q ∷ rs) n in
    omega (arith, new, old, more)

sum-next : (b : Bool) (rs : List Run) (n : ℕ)
    → sum_by (λ (q : Run). q.count) (cond b (with_sector rs n) rs)
    ≡ sum_by (λ (q : Run). q.count) rs + cond b 1 0
sum-next true rs n = sum-with_sector rs n
sum-next false rs n = omega arith

pub sectors_below-suc : (blocks : List ℕ) (n : ℕ)
    → sectors_below blocks (suc n) ≡ sectors_below blocks n + cond (in_blocks blocks n) 1 0
unfolding runs_of
sectors_below-suc blocks n = sum-next (in_blocks blocks n) (runs_of (in_blocks blocks) n) n

-- none of the blocks lies between two sectors
pub sectors_below-skip : (blocks : List ℕ) (a k : ℕ)
    → ((s : ℕ) → a ≤ s → s < a + k → in_blocks blocks s ≡ false)
    → sectors_below blocks (a + k) ≡ sectors_below blocks a
sectors_below-skip blocks a zero none = ap (sectors_below blocks) (omega arith)
sectors_below-skip blocks a (suc k) none =
    let next : a + suc k ≡ suc (a + k) = omega arith in
    ap (sectors_below blocks) next ∙ sectors_below-suc blocks (a + k)
    ∙ ap (λ b. sectors_below blocks (a + k) + cond b 1 0)
    (none (a + k) (omega arith) (omega arith))
    ∙ (let rest = sectors_below-skip blocks a k (λ s from less. none s from (omega arith)) in
    omega (arith, rest))

-- or all sectors between them are of the blocks
pub sectors_below-run : (blocks : List ℕ) (a k : ℕ)
    → ((s : ℕ) → a ≤ s → s < a + k → in_blocks blocks s ≡ true)
    → sectors_below blocks (a + k) ≡ sectors_below blocks a + k
sectors_below-run blocks a zero all =
    ap (sectors_below blocks) (let z : a + 0 ≡ a = omega arith in z)
    ∙ (let z : sectors_below blocks a ≡ sectors_below blocks a + 0 = omega arith in z)
sectors_below-run blocks a (suc k) all =
    let next : a + suc k ≡ suc (a + k) = omega arith in
    ap (sectors_below blocks) next ∙ sectors_below-suc blocks (a + k)
    ∙ ap (λ b. sectors_below blocks (a + k) + cond b 1 0)
    (all (a + k) (omega arith) (omega arith))
    ∙ (let rest = sectors_below-run blocks a k (λ s from less. all s from (omega arith)) in
    omega (arith, rest))

one-at-most : (b : Bool) → cond b 1 0 ≤ 1
one-at-most true = omega arith
one-at-most false = omega arith

pub sectors_below-le : (blocks : List ℕ) (n : ℕ) → sectors_below blocks n ≤ n
unfolding runs_of
sectors_below-le blocks zero = omega arith
sectors_below-le blocks (suc n) =
    let step = sectors_below-suc blocks n in
    let one = one-at-most (in_blocks blocks n) in
    let rest = sectors_below-le blocks n in
    omega (arith, step, one, rest)

rises : (blocks : List ℕ) (a k : ℕ) → sectors_below blocks a ≤ sectors_below blocks (a + k)
rises blocks a zero =
    subst (λ n. sectors_below blocks a ≤ sectors_below blocks n) (let z : a ≡ a + 0 = omega arith in
    z) (omega arith)
rises blocks a (suc k) =
    let next : a + suc k ≡ suc (a + k) = omega arith in
    let step = ap (sectors_below blocks) next ∙ sectors_below-suc blocks (a + k) in
    let rest = rises blocks a k in
    omega (arith, step, rest)

pub sectors_below-rises : (blocks : List ℕ) (a b : ℕ) → a ≤ b
    → sectors_below blocks a ≤ sectors_below blocks b
sectors_below-rises blocks a b le =
    subst (λ n. sectors_below blocks a ≤ sectors_below blocks n)
    (let z : a + (b - a) ≡ b = omega arith in z) (rises blocks a (b - a))
