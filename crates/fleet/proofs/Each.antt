-- What is true of the item at each place of a list stays so, where one is added behind and where
-- one is replaced.
use Rattle.std.proofs.Common.{◌≡◌, ℕ, zero, suc, List, [], ◌∷◌, ◌++◌, length, set, Some, subst, slice_get}
use Rattle.std.proofs.lemmas.Option.{none-some, same_Some}

abbrev pub Each : {X : Type 0} → (P : ℕ → X → Type 0) → List X → Type 0
Each {X} P xs = (k : ℕ) (x : X) → slice_get xs k ≡ Some x → P k x

pub Each-push : {X : Type 0} (P : ℕ → X → Type 0) (xs : List X) (x : X) → Each P xs
    → P (length xs) x → Each P (xs ++ x ∷ [])
Each-push P [] x each p zero y at = subst (P 0) (same_Some x y at) p
Each-push P [] x each p (suc k) y at = absurd (none-some y at)
Each-push P (z ∷ xs) x each p zero y at = each zero y at
Each-push P (z ∷ xs) x each p (suc k) y at =
    Each-push (λ n. P (suc n)) xs x (λ n. each (suc n)) p k y at

pub Each-set : {X : Type 0} (P : ℕ → X → Type 0) (xs : List X) (place : ℕ) (x : X) → Each P xs
    → P place x → Each P (set xs place x)
Each-set P [] place x each p k y at = absurd (none-some y at)
Each-set P (z ∷ xs) zero x each p zero y at = subst (P 0) (same_Some x y at) p
Each-set P (z ∷ xs) zero x each p (suc k) y at = each (suc k) y at
Each-set P (z ∷ xs) (suc place) x each p zero y at = each zero y at
Each-set P (z ∷ xs) (suc place) x each p (suc k) y at =
    Each-set (λ n. P (suc n)) xs place x (λ n. each (suc n)) p k y at
