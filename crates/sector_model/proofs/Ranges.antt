-- Lists that are made from the numbers of a range.
use Rattle.std.proofs.Common.{◌≡◌, ℕ, zero, suc, ◌+◌, ◌<◌, ◌≤◌, ◌∷◌, map, replicate, refl, ap, ◌∙◌, arith}
use Rattle.std.specs.List.{range_with_len}

-- functions that agree on the numbers of a range make the same list of them
pub map-range_same : {X : Type 0} (f g : ℕ → X) (a n : ℕ)
    → ((k : ℕ) → a ≤ k → k < a + n → f k ≡ g k)
    → map f (range_with_len a n) ≡ map g (range_with_len a n)
map-range_same f g a zero same = refl
map-range_same f g a (suc n) same =
    ap (λ y. y ∷ map f (range_with_len (a + 1) n)) (same a (omega arith) (omega arith))
    ∙ ap (λ ys. g a ∷ ys)
    (map-range_same f g (a + 1) n (λ k low less. same k (omega (arith, low)) (omega (arith, less))))

-- and one that is the same everywhere makes a list of equal items
pub map-range_alike : {X : Type 0} (f : ℕ → X) (x : X) (a n : ℕ) → ((k : ℕ) → f k ≡ x)
    → map f (range_with_len a n) ≡ replicate n x
map-range_alike f x a zero alike = refl
map-range_alike f x a (suc n) alike =
    ap (λ y. y ∷ map f (range_with_len (a + 1) n)) (alike a)
    ∙ ap (λ ys. x ∷ ys) (map-range_alike f x (a + 1) n alike)
