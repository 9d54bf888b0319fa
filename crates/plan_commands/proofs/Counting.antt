-- The lists that loops of a start make, with one item more.
use Rattle.std.proofs.Common.{◌≡◌, ℕ, ◌+◌, ◌<◌, List, [], ◌∷◌, ◌++◌, length, get_or, map, take, ap, ◌∙◌, arith}
use Rattle.std.specs.List.{zip, range_with_len}
use Rattle.std.proofs.lemmas.List.{take_more, map_more}
use Rattle.std.proofs.lemmas.List.FromFn.{length-range_with_len, get_or-range_with_len}
use Rattle.std.proofs.lemmas.Slice.Zip.{length-zip, get_or-zip}

pub one_number_more : (first count place : ℕ) → place < count
    → take (place + 1) (range_with_len first count)
    ≡ take place (range_with_len first count) ++ (first + place) ∷ []
one_number_more first count place within =
    take_more (range_with_len first count) place 0
    (omega (arith, within, length-range_with_len first count))
    ∙ ap (λ n. take place (range_with_len first count) ++ n ∷ [])
    (get_or-range_with_len first count place 0 within)

-- numbers from the first one on, each with what it numbers
abbrev numbered : (first : ℕ) → List ℕ → List (ℕ × ℕ)
numbered first xs = zip (range_with_len first (length xs)) xs

pub length-numbered : (first : ℕ) (xs : List ℕ) → length (numbered first xs) ≡ length xs
length-numbered first xs = omega (
  arith,
  length-zip (range_with_len first (length xs)) xs,
  length-range_with_len first (length xs),
)

pub one_pair_more : {X : Type 0} (f : ℕ × ℕ → X) (first : ℕ) (xs : List ℕ) (place : ℕ)
    → place < length xs → map f (take (place + 1) (numbered first xs))
    ≡ map f (take place (numbered first xs)) ++ f (first + place, get_or xs place 0) ∷ []
one_pair_more f first xs place within =
    map_more f (numbered first xs) place (0, 0) (omega (arith, within, length-numbered first xs))
    ∙ ap (λ p. map f (take place (numbered first xs)) ++ f p ∷ [])
    (get_or-zip (range_with_len first (length xs)) xs place (0, 0)
    (omega (arith, within, length-range_with_len first (length xs))) within
    ∙ ap (λ n. (n, get_or xs place 0)) (get_or-range_with_len first (length xs) place 0 within))
