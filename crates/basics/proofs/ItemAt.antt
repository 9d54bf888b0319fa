-- One item of a list that was cut, joined, set or made of equal ones; lists with equal items; a
-- list up to one of its places and from there on.
use Rattle.std.proofs.Common.{◌≡◌, ◌≢◌, ℕ, zero, suc, ◌+◌, ◌-◌, ◌<◌, ◌≤◌, ◌⊎◌, inl, inr, Bool, true, false, not, cond, List, [], ◌∷◌, ◌++◌, length, get_or, take, drop, set, replicate, Some, ap, refl, sym, unwrap_or, ◌∙◌, arith, append_assoc, length-append, length-drop}
use Rattle.std.specs.List.{slice_get, position_or_len}
use Rattle.std.proofs.lemmas.Bool.{cases_eq}
use Rattle.std.proofs.lemmas.List.{same_lists, take_more, take_all, take-append-drop}
use Rattle.std.proofs.lemmas.Option.{unwrap_or-slice_get, slice_get_within, get_or_from_slice_get, same_Some}
use Rattle.std.proofs.Math.Seq.{take-append_seam}

pub slice_get-front : {X : Type 0} (xs ys : List X) (k : ℕ) → k < length xs
    → slice_get (xs ++ ys) k ≡ slice_get xs k
slice_get-front [] ys k h = absurd (omega arith)
slice_get-front (x ∷ xs) ys zero h = refl
slice_get-front (x ∷ xs) ys (suc k) h = slice_get-front xs ys k (omega arith)

pub slice_get-back : {X : Type 0} (xs ys : List X) (k : ℕ)
    → slice_get (xs ++ ys) (length xs + k) ≡ slice_get ys k
slice_get-back [] ys k = ap (slice_get ys) (omega arith)
slice_get-back (x ∷ xs) ys k =
    let next : ◌≡◌ {A = ℕ} (suc (length xs) + k) (suc (length xs + k)) = omega arith in
    ap (slice_get (x ∷ (xs ++ ys))) next ∙ slice_get-back xs ys k

pub slice_get-last : {X : Type 0} (xs : List X) (x : X)
    → slice_get (xs ++ x ∷ []) (length xs) ≡ Some x
slice_get-last [] x = refl
slice_get-last (y ∷ ys) x = slice_get-last ys x

-- an item of a list with one more is an old one, or the new one at the end
pub slice_get-pushed : {X : Type 0} (xs : List X) (y : X) (k : ℕ) (x : X)
    → slice_get (xs ++ y ∷ []) k ≡ Some x
    → ((k < length xs) × (slice_get xs k ≡ Some x)) ⊎ ((k ≡ length xs) × (y ≡ x))
slice_get-pushed xs y k x read =
    let inside : k < length xs + 1 =
    omega (arith, slice_get_within (xs ++ y ∷ []) k x read, length-append xs (y ∷ [])) in
    elim (cases_eq k (length xs)) [
      | inl same ↦ inr (
        same,
        same_Some y x (sym (slice_get-last xs y)
            ∙ ap (slice_get (xs ++ y ∷ [])) (sym same) ∙ read),
      )
      | inr other ↦ let old : k < length xs = omega arith in
          inl (old, sym (slice_get-front xs (y ∷ []) k old) ∙ read)
    ]

pub slice_get-take : {X : Type 0} (xs : List X) (n k : ℕ) → k < n
    → slice_get (take n xs) k ≡ slice_get xs k
slice_get-take xs zero k h = absurd (omega arith)
slice_get-take [] (suc n) k h = refl
slice_get-take (x ∷ xs) (suc n) zero h = refl
slice_get-take (x ∷ xs) (suc n) (suc k) h = slice_get-take xs n k (omega arith)

pub slice_get-drop : {X : Type 0} (xs : List X) (n k : ℕ)
    → slice_get (drop n xs) k ≡ slice_get xs (n + k)
slice_get-drop xs zero k = ap (slice_get xs) (omega arith)
slice_get-drop [] (suc n) k = refl
slice_get-drop (x ∷ xs) (suc n) k =
    let next : ◌≡◌ {A = ℕ} (suc (n + k)) (suc n + k) = omega arith in
    slice_get-drop xs n k ∙ ap (slice_get (x ∷ xs)) next

pub slice_get-replicate : {X : Type 0} (n k : ℕ) (x : X) → k < n
    → slice_get (replicate n x) k ≡ Some x
slice_get-replicate zero k x less = absurd (omega arith)
slice_get-replicate (suc n) zero x less = refl
slice_get-replicate (suc n) (suc k) x less = slice_get-replicate n k x (omega arith)

pub slice_get-set_same : {X : Type 0} (xs : List X) (i : ℕ) (x : X) → i < length xs
    → slice_get (set xs i x) i ≡ Some x
slice_get-set_same [] i x less = absurd (omega (arith, less))
slice_get-set_same (y ∷ xs) zero x less = refl
slice_get-set_same (y ∷ xs) (suc i) x less = slice_get-set_same xs i x (omega (arith, less))

pub slice_get-set_other : {X : Type 0} (xs : List X) (i j : ℕ) (x : X) → i ≢ j
    → slice_get (set xs i x) j ≡ slice_get xs j
slice_get-set_other [] i j x apart = refl
slice_get-set_other (y ∷ xs) zero zero x apart = absurd (apart refl)
slice_get-set_other (y ∷ xs) zero (suc j) x apart = refl
slice_get-set_other (y ∷ xs) (suc i) zero x apart = refl
slice_get-set_other (y ∷ xs) (suc i) (suc j) x apart =
    slice_get-set_other xs i j x (λ same. apart (ap suc same))

-- lists of one length with the same item at each place are the same
pub same_items : {X : Type 0} (xs ys : List X) → length xs ≡ length ys
    → ((i : ℕ) → i < length xs → slice_get xs i ≡ slice_get ys i) → xs ≡ ys
same_items xs ys long same =
    same_lists xs ys long
    (λ i x less. sym (unwrap_or-slice_get xs i x) ∙ ap (λ o. unwrap_or o x) (same i less)
    ∙ unwrap_or-slice_get ys i x)

-- ---- a list up to, at and from one of its places

-- one item more
pub take-next : {X : Type 0} (xs : List X) (place : ℕ) (x : X) → slice_get xs place ≡ Some x
    → take (place + 1) xs ≡ take place xs ++ x ∷ []
take-next xs place x at =
    take_more xs place x (slice_get_within xs place x at)
    ∙ ap (λ y. take place xs ++ y ∷ []) (get_or_from_slice_get xs place x x at)

-- the same, where the item was read
pub take-next_read : {X : Type 0} (xs : List X) (place : ℕ) (x : X) → place < length xs
    → x ≡ get_or xs place x → take (place + 1) xs ≡ take place xs ++ x ∷ []
take-next_read xs place x within is =
    take_more xs place x within ∙ ap (λ y. take place xs ++ y ∷ []) (sym is)

-- what stands before an item, the item, and what stands behind it
pub split_around : {X : Type 0} (xs : List X) (place : ℕ) (x : X) → place < length xs
    → x ≡ get_or xs place x → xs ≡ take place xs ++ x ∷ drop (place + 1) xs
split_around xs place x within is =
    sym (take-append-drop (place + 1) xs)
    ∙ ap (λ ys. ys ++ drop (place + 1) xs) (take_more xs place x within)
    ∙ ap (λ y. (take place xs ++ y ∷ []) ++ drop (place + 1) xs) (sym is)
    ∙ append_assoc (take place xs) (x ∷ []) (drop (place + 1) xs)

-- a part from a place to the end is all that stands from there on
pub take-drop_rest : {X : Type 0} (xs : List X) (place : ℕ)
    → take (length xs - place) (drop place xs) ≡ drop place xs
take-drop_rest xs place =
    take_all (length xs - place) (drop place xs) (omega (arith, length-drop place xs))

-- the front of a list was written anew, and that is all that is taken
pub take-written : {X : Type 0} (n : ℕ) (new old : List X) → n ≡ length new
    → take n (new ++ drop (length new) old) ≡ new
take-written n new old all =
    ap (λ k. take k (new ++ drop (length new) old)) all
    ∙ take-append_seam new (drop (length new) old)

-- ---- the first place of an item that passes a test

pub position_or_len-le : {X : Type 0} (p : X → Bool) (xs : List X)
    → position_or_len p xs ≤ length xs
position_or_len-le p [] = omega arith
position_or_len-le p (x ∷ xs) = bounded (p x) (position_or_len p xs) (position_or_len-le p xs)
  where
    bounded : (b : Bool) (n : ℕ) → n ≤ length xs → cond (not b) (1 + n) 0 ≤ suc (length xs)
    bounded true n le = omega arith
    bounded false n le = omega (arith, le)
