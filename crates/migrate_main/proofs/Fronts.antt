-- The front of a list, taken in two parts.
use Rattle.std.proofs.Common.{◌≡◌, ℕ, ◌+◌, ◌-◌, List, ◌++◌, length, take, drop, sym, ap, ◌∙◌, arith}
use Rattle.std.proofs.Math.Seq.{take-add}
use Rattle.std.proofs.lemmas.List.{length-drop, take_all}

pub take-two : {X : Type 0} (xs : List X) (m n : ℕ)
    → take m xs ++ take n (take (length xs - m) (drop m xs)) ≡ take (m + n) xs
take-two xs m n =
    let whole : take (length xs - m) (drop m xs) ≡ drop m xs =
    take_all (length xs - m) (drop m xs) (let e = length-drop m xs in omega (arith, e)) in
    ap (λ ys. take m xs ++ take n ys) whole ∙ sym (take-add m n xs)
