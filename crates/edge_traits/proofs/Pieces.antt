-- A piece of a list, and what is left after it.
use Rattle.std.proofs.Common.{◌≡◌, ℕ, ◌+◌, List, ◌++◌, length, take, drop, sym, ◌∙◌, ap}
use Rattle.std.proofs.lemmas.List.{take-append-drop, drop-drop}
use Rattle.std.proofs.Math.Seq.{take-append_seam}

-- what was left is the piece at the buffer's front, and then what is left now
pub piece_and_rest : (given n : ℕ) (bytes piece after : List ℕ) → piece ≡ take n (drop given bytes)
    → length piece ≡ n
    → drop given bytes ≡ take n (piece ++ after) ++ drop (given + n) bytes
piece_and_rest given n bytes piece after same len =
    let front : take n (piece ++ after) ≡ piece =
    ap (λ k. take k (piece ++ after)) (sym len) ∙ take-append_seam piece after in
    let split : take n (drop given bytes) ++ drop n (drop given bytes) ≡ drop given bytes =
    take-append-drop n (drop given bytes) in
    let rest : drop n (drop given bytes) ≡ drop (given + n) bytes = drop-drop n given bytes in
    cc
