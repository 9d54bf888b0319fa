-- What holds of each item of a list.
use Rattle.std.proofs.Common.{ℕ, zero, suc, List, [], ◌∷◌, ◌++◌, take}
use Rattle.std.specs.List.{AllByRecursion}

pub each_both : {X : Type 0} {P Q R : X → Type 0} → ((x : X) → P x → Q x → R x) → (xs : List X)
    → AllByRecursion P xs → AllByRecursion Q xs → AllByRecursion R xs
each_both leads [] first second = tt
each_both leads (x ∷ xs) first second =
    (leads x first.0 second.0, each_both leads xs first.1 second.1)

pub each : {X : Type 0} {P Q : X → Type 0} → ((x : X) → P x → Q x) → (xs : List X)
    → AllByRecursion P xs → AllByRecursion Q xs
each leads xs fact = each_both (λ x holds _. leads x holds) xs fact fact

module _ {X : Type 0} (P : X → Type 0) where
  pub each_pushed : (xs : List X) (x : X) → AllByRecursion P xs → P x
      → AllByRecursion P (xs ++ x ∷ [])
  each_pushed [] x all here = (here, tt)
  each_pushed (y ∷ xs) x all here = (all.0, each_pushed xs x all.1 here)

  pub each_taken : (n : ℕ) (xs : List X) → AllByRecursion P xs → AllByRecursion P (take n xs)
  each_taken zero xs all = tt
  each_taken (suc n) [] all = tt
  each_taken (suc n) (x ∷ xs) all = (all.0, each_taken n xs all.1)
