-- A list that is split at two of its items: it is the same split, or one stands before the other.
use Rattle.std.proofs.Common.{◌≡◌, ◌+◌, List, [], ◌∷◌, ◌++◌, length, refl, ap, sym, arith, length-append}

pub data Order {X : Type 0} (front : List X) (x : X) (other : List X) (y : X) : Type 0 where
  same : front ≡ other → x ≡ y → Order front x other y
  earlier : (between : List X) → other ≡ front ++ x ∷ between → Order front x other y
  later : (between : List X) → front ≡ other ++ y ∷ between → Order front x other y

pub two_splits : {X : Type 0} (front rest other left : List X) (x y : X)
    → front ++ x ∷ rest ≡ other ++ y ∷ left → Order front x other y
two_splits [] rest [] left x y e = let here : x ≡ y = cc in same refl here
two_splits [] rest (z ∷ other) left x y e =
    let here : z ≡ x = cc in earlier other (ap (λ w. w ∷ other) here)
two_splits (z ∷ front) rest [] left x y e =
    let here : z ≡ y = cc in later front (ap (λ w. w ∷ front) here)
two_splits (z ∷ front) rest (w ∷ other) left x y e =
    let here : z ≡ w = cc in
    let behind : front ++ x ∷ rest ≡ other ++ y ∷ left = cc in
    elim (two_splits front rest other left x y behind) [
      | same a b ↦ same ((λ i. here i ∷ a i)) b
      | earlier m a ↦ earlier m ((λ i. (sym here) i ∷ a i))
      | later m a ↦ later m ((λ i. here i ∷ a i))
    ]

pub nothing_splits : {X : Type 0} (front rest : List X) (x : X) → [] ≡ front ++ x ∷ rest → ⊥
nothing_splits [] rest x e = cc
nothing_splits (z ∷ front) rest x e = cc

-- nothing stands behind the last one
pub none_behind : {X : Type 0} (xs rest between front : List X) (x y : X)
    → xs ++ x ∷ [] ≡ front ++ y ∷ rest → front ≡ xs ++ x ∷ between → ⊥
none_behind xs rest between front x y e is =
    let one = length-append xs (x ∷ []) in
    let two = length-append front (y ∷ rest) in
    let three = length-append xs (x ∷ between) in
    let four : length (xs ++ x ∷ []) ≡ length (front ++ y ∷ rest) = ap length e in
    let five : length front ≡ length (xs ++ x ∷ between) = ap length is in
    omega (arith, one, two, three, four, five)
