-- Numbers of a list that have the bits that their type gives them.
use Rattle.std.proofs.Common.{ℕ, ◌^◌, ◌<◌, List, get_or, Fits, w32}
use Rattle.std.specs.List.{AllByRecursion}
use Rattle.std.proofs.Math.Facts.{Fits-lt-pow}
use Rattle.std.proofs.lemmas.List.Elements.{All-from_get_or, recursion_from_All}

pub each_fits : (xs : List ℕ) → ((i : ℕ) → Fits w32 (get_or xs i 0))
    → AllByRecursion (λ x. x < 2 ^ 32) xs
each_fits xs fit =
    recursion_from_All (λ x. x < 2 ^ 32) xs
    (All-from_get_or (λ x. x < 2 ^ 32) xs 0 (λ i within. Fits-lt-pow (fit i)))
