-- What one entry more does to a numbered log.
use Rattle.std.proofs.Common.{◌≡◌, ℕ, suc, ◌+◌, List, [], ◌∷◌, ◌++◌, length, ap, refl, ◌∙◌, add-zero, arith}
use Rattle.std.specs.List.{enumerate_from}

pub enumerate_from-append : {X : Type 0} (n : ℕ) (xs ys : List X)
    → enumerate_from n (xs ++ ys) ≡ enumerate_from n xs ++ enumerate_from (n + length xs) ys
enumerate_from-append n [] ys = rw add-zero refl
enumerate_from-append {X = X} n (x ∷ xs) ys =
    let count : ◌≡◌ {A = ℕ} (n + 1 + length xs) (n + suc (length xs)) = omega arith in
    ap (λ (rest : List (ℕ × X)). (n, x) ∷ rest) (enumerate_from-append (n + 1) xs ys)
    ∙ ap (λ (m : ℕ). (n, x) ∷ (enumerate_from (n + 1) xs ++ enumerate_from m ys)) count
