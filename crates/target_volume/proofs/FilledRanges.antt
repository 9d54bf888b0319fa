-- A range of a list that one value fills.
use Rattle.std.proofs.Common.{◌≡◌, ℕ, ◌+◌, ◌-◌, ◌≤◌, List, ◌++◌, length, take, drop, sym, ap, ◌∙◌, arith}
use Rattle.std.specs.Prelude.{replicate}
use borrow.Rule.Slice.PartMut.{put_mid}
use Rattle.std.proofs.lemmas.List.{length-take, length-drop, length-replicate, take_all}
use Rattle.std.proofs.lemmas.Slice.{put_mid-paste}
use Rattle.basics.specs.Replaced.{replaced}

pub filled_range : {X : Type 0} (xs ys : List X) (at n : ℕ) (x : X) → at + n ≤ length xs
    → ys ≡ replicate (length (take (at + n - at) (drop at xs))) x
    → put_mid at (at + n - at) xs ys ≡ replaced xs at (replicate n x)
filled_range xs ys at n x within filled =
    let count : length (take (at + n - at) (drop at xs)) ≡ n =
    simp (length-take, length-drop) (omega arith) in
    let same : ys ≡ replicate n x = filled ∙ ap (λ k. replicate k x) count in
    let long : n ≡ length (replicate n x) = sym (length-replicate n x) in
    put_mid-paste at (at + n - at) xs ys (replicate n x) n same (omega arith) long
    ∙ ap (λ zs. take at xs ++ zs ++ drop (at + n) xs)
    (take_all n (replicate n x) (omega (arith, long)))
    ∙ ap (λ k. take at xs ++ replicate n x ++ drop (at + k) xs) long
