-- What the plain machine's passes over a log compute.
use Rattle.std.proofs.Common.{◌≡◌, ℕ, ◌≤◌, List, length, Bool, true, false, not, cond, ltb, Some, None, unwrap_or, refl, arith}
use Rattle.std.specs.List.{position, position_or_len}
use Rattle.std.proofs.lemmas.Bool.{ltb-false}
use Rattle.std.proofs.lemmas.List.Sums.{prefix_len-le-length}

or_length : {X : Type 0} (b : Bool) (n : ℕ) (xs : List X) → ltb n (length xs) ≡ b → n ≤ length xs
    → unwrap_or (cond b (Some n) None) (length xs) ≡ n
or_length true n xs e le = refl
or_length false n xs e le = let past = ltb-false n (length xs) e in omega arith

pub position_or_len-from_position : {X : Type 0} (p : X → Bool) (xs : List X)
    → unwrap_or (position p xs) (length xs) ≡ position_or_len p xs
position_or_len-from_position p xs =
    or_length (ltb (position_or_len p xs) (length xs)) (position_or_len p xs) xs refl
    (prefix_len-le-length (λ x. not (p x)) xs)
