-- Runs in ascending order and one more: how they join.
use Rattle.std.proofs.Common.{◌≡◌, ℕ, zero, suc, ◌+◌, ◌-◌, ◌<◌, ◌≤◌, ◌^◌, min, max, List, [], ◌∷◌, ◌++◌, length, drop, get_or, Bool, true, false, cond, ◌||◌, ◌&&◌, ltb, leb, Option, Some, None, refl, sym, ap, ◌∙◌, arith}
use Rattle.std.specs.List.{list_any, AllByRecursion}
use Rattle.std.proofs.Math.Bool.{or-false, or_assoc, or_comm}
use Rattle.std.proofs.lemmas.Bool.{ltb-true, ltb-false}
use Rattle.std.proofs.lemmas.Bool.Decides.{nat_tests}
use Rattle.sector_model.specs.Run.{end_of, has, in_runs, AreSpacedFrom}
use Rattle.sector_model.specs.Joining.{hull, joined}
use Rattle.sector_model.specs.declared.run.Run.{Run}
use Rattle.sector_model.proofs.Spacing.{from_earlier, spaced-bound}

pub ends_fit : (m : ℕ) (rs : List Run) (i : ℕ) (d : Run) → AreSpacedFrom m rs → i < length rs
    → end_of (get_or rs i d) < 2 ^ 64
ends_fit m [] i d spaced less = absurd (omega arith)
ends_fit m (r ∷ rs) zero d spaced less = let more = spaced-bound (end_of r + 1) rs spaced.2 in
    omega (arith, more)
ends_fit m (r ∷ rs) (suc i) d spaced less = ends_fit (end_of r + 1) rs i d spaced.2 (omega arith)

has-hull : (r q : Run) (s : ℕ) → q.first ≤ end_of r → r.first ≤ end_of q
    → has s (hull r q) ≡ (has s r || has s q)
has-hull r q s one two = grind (arith, nat_tests)

turn : (x y z : Bool) → (x || (y || z)) ≡ ((z || x) || y)
turn true y true = refl
turn true y false = refl
turn false true true = refl
turn false true false = refl
turn false false true = refl
turn false false false = refl

in_joined-at : (a b : Bool) (more r : Run) (rs : List Run) (s : ℕ) → ltb (end_of r) more.first ≡ a
    → ltb (end_of more) r.first ≡ b
    → in_runs (joined more rs) s ≡ (in_runs rs s || has s more)
    → in_runs (joined (hull more r) rs) s ≡ (in_runs rs s || has s (hull more r))
    → in_runs (cond a (r ∷ joined more rs) (cond b (more ∷ r ∷ rs) (joined (hull more r) rs))) s
    ≡ (in_runs (r ∷ rs) s || has s more)
in_joined-at true b more r rs s is _ behind _ =
    ap (λ x. has s r || x) behind ∙ sym (or_assoc (has s r) (in_runs rs s) (has s more))
in_joined-at false true more r rs s _ _ _ _ = or_comm (has s more) (in_runs (r ∷ rs) s)
in_joined-at false false more r rs s one two _ met =
    met ∙ ap (λ x. in_runs rs s || x)
    (has-hull more r s (ltb-false (end_of more) r.first two)
    (ltb-false (end_of r) more.first one))
    ∙ turn (in_runs rs s) (has s more) (has s r)

pub in_joined : (more : Run) (rs : List Run) (s : ℕ)
    → in_runs (joined more rs) s ≡ (in_runs rs s || has s more)
in_joined more [] s = or-false (has s more)
in_joined more (r ∷ rs) s =
    in_joined-at (ltb (end_of r) more.first) (ltb (end_of more) r.first) more r rs s refl refl
    (in_joined more rs s) (in_joined (hull more r) rs s)

joined-spaced-at : (a b : Bool) (m : ℕ) (more r : Run) (rs : List Run)
    → ltb (end_of r) more.first ≡ a → ltb (end_of more) r.first ≡ b
    → AreSpacedFrom m (r ∷ rs) → m ≤ more.first → 0 < more.count → end_of more < 2 ^ 64
    → (end_of r + 1 ≤ more.first → AreSpacedFrom (end_of r + 1) (joined more rs))
    → (m ≤ (hull more r).first → 0 < (hull more r).count → end_of (hull more r) < 2 ^ 64
    → AreSpacedFrom m (joined (hull more r) rs))
    → AreSpacedFrom m (cond a (r ∷ joined more rs)
    (cond b (more ∷ r ∷ rs) (joined (hull more r) rs)))
joined-spaced-at true b m more r rs one _ spaced from some fits behind _ =
    (spaced.0, spaced.1, behind (omega (arith, ltb-true (end_of r) more.first one)))
joined-spaced-at false true m more r rs _ two spaced from some fits _ _ =
    (from, some, (omega (arith, ltb-true (end_of more) r.first two), spaced.1, spaced.2))
joined-spaced-at false false m more r rs one two spaced from some fits _ met =
    let more_fits : end_of r + 1 ≤ 2 ^ 64 = spaced-bound (end_of r + 1) rs spaced.2 in
    met (omega (arith, spaced.0)) (omega (arith, spaced.1)) (omega (arith, more_fits))

pub joined-spaced : (m : ℕ) (more : Run) (rs : List Run) → AreSpacedFrom m rs → m ≤ more.first
    → 0 < more.count → end_of more < 2 ^ 64 → AreSpacedFrom m (joined more rs)
joined-spaced m more [] spaced from some fits = (from, some, omega arith)
joined-spaced m more (r ∷ rs) spaced from some fits =
    joined-spaced-at (ltb (end_of r) more.first) (ltb (end_of more) r.first) m more r rs refl refl
    spaced from some fits
    (λ past. joined-spaced (end_of r + 1) more rs spaced.2 past some fits)
    (λ low wide high. joined-spaced m (hull more r) rs
    (from_earlier (end_of r + 1) m rs spaced.2 (omega (arith, spaced.0))) low wide high)

-- joined runs end where the others do
joined-ends-at : (a b : Bool) (e : ℕ) (more r : Run) (rs : List Run) → end_of r ≤ e
    → end_of more ≤ e → AllByRecursion (λ q. end_of q ≤ e) rs
    → AllByRecursion (λ q. end_of q ≤ e) (joined more rs)
    → AllByRecursion (λ q. end_of q ≤ e) (joined (hull more r) rs)
    → AllByRecursion (λ q. end_of q ≤ e)
    (cond a (r ∷ joined more rs) (cond b (more ∷ r ∷ rs) (joined (hull more r) rs)))
joined-ends-at true b e more r rs here there rest behind _ = (here, behind)
joined-ends-at false true e more r rs here there rest _ _ = (there, (here, rest))
joined-ends-at false false e more r rs here there rest _ met = met

pub joined-ends : (e : ℕ) (more : Run) (rs : List Run) → 0 < more.count
    → AllByRecursion (λ q. end_of q ≤ e) rs → end_of more ≤ e
    → AllByRecursion (λ q. end_of q ≤ e) (joined more rs)
joined-ends e more [] some ends there = (there, tt)
joined-ends e more (r ∷ rs) some ends there =
    joined-ends-at (ltb (end_of r) more.first) (ltb (end_of more) r.first) e more r rs ends.0 there
    ends.1 (joined-ends e more rs some ends.1 there)
    (joined-ends e (hull more r) rs (omega (arith, some)) ends.1
    (omega (arith, ends.0, there, some)))
