-- What a list with a part replaced has at each place, and its parts before and behind.
use Rattle.std.proofs.Common.{◌≡◌, ℕ, ◌+◌, ◌-◌, ◌<◌, ◌≤◌, max, List, ◌++◌, length, get_or, take, drop, unwrap_or, sym, ◌∙◌, ap, arith, length-append, length-take, length-drop, ◌⊎◌, inl, inr}
use Rattle.std.specs.List.{slice_get}
use Rattle.std.proofs.lemmas.List.{take-append-le, drop-drop, take_all}
use Rattle.std.proofs.lemmas.Option.{unwrap_or-slice_get}
use Rattle.std.proofs.Math.Seq.{drop-append_seam}
use Rattle.basics.specs.Replaced.{replaced}
use Rattle.basics.proofs.ItemAt.{slice_get-front, slice_get-back, slice_get-take, slice_get-drop}

-- where two lists have the same at a place each, they read the same
read_same : {X : Type 0} (xs ys : List X) (k m : ℕ) (d : X) → slice_get xs k ≡ slice_get ys m
    → get_or xs k d ≡ get_or ys m d
read_same xs ys k m d same =
    sym (unwrap_or-slice_get xs k d) ∙ ap (λ o. unwrap_or o d) same ∙ unwrap_or-slice_get ys m d

-- what agrees from a place on agrees from any later one on
pub drop_on : {X : Type 0} (m n : ℕ) (xs ys : List X) → m ≤ n → drop m xs ≡ drop m ys
    → drop n xs ≡ drop n ys
drop_on m n xs ys le same =
    let split : m + (n - m) ≡ n = omega arith in
    ap (λ k. drop k xs) (sym split) ∙ sym (drop-drop (n - m) m xs)
    ∙ ap (λ zs. drop (n - m) zs) same
    ∙ drop-drop (n - m) m ys ∙ ap (λ k. drop k ys) split

module _ {X : Type 0} (xs ys : List X) (first : ℕ) (begins : first ≤ length xs) where
  front_long : length (take first xs) ≡ first
  front_long = omega (arith, begins, length-take first xs)

  new_long : length (take first xs ++ ys) ≡ first + length ys
  new_long = length-append (take first xs) ys ∙ ap (λ n. n + length ys) front_long

  pub length-replaced_past : length (replaced xs first ys) ≡ max (length xs) (first + length ys)
  length-replaced_past =
      omega (
        arith,
        begins,
        length-append (take first xs ++ ys) (drop (first + length ys) xs),
        new_long,
        length-drop (first + length ys) xs,
      )

  pub replaced-before : (k : ℕ) → k < first → slice_get (replaced xs first ys) k ≡ slice_get xs k
  replaced-before k less =
      slice_get-front (take first xs ++ ys) (drop (first + length ys) xs) k
      (omega (arith, new_long))
      ∙ slice_get-front (take first xs) ys k (omega (arith, front_long))
      ∙ slice_get-take xs first k less

  pub replaced-within : (k : ℕ) → first ≤ k → k < first + length ys
      → slice_get (replaced xs first ys) k ≡ slice_get ys (k - first)
  replaced-within k from less =
      let at : k ≡ length (take first xs) + (k - first) = omega (arith, from, front_long) in
      slice_get-front (take first xs ++ ys) (drop (first + length ys) xs) k
      (omega (arith, less, new_long))
      ∙ ap (slice_get (take first xs ++ ys)) at ∙ slice_get-back (take first xs) ys (k - first)

  pub replaced-behind : (k : ℕ) → first + length ys ≤ k
      → slice_get (replaced xs first ys) k ≡ slice_get xs k
  replaced-behind k past =
      let n : ℕ = k - (first + length ys) in
      let at : k ≡ length (take first xs ++ ys) + n = omega (arith, past, new_long) in
      let back : first + length ys + n ≡ k = omega (arith, past) in
      ap (slice_get (replaced xs first ys)) at
      ∙ slice_get-back (take first xs ++ ys) (drop (first + length ys) xs) n
      ∙ slice_get-drop xs (first + length ys) n ∙ ap (slice_get xs) back

  pub replaced-outside : (k : ℕ) → (k < first) ⊎ (first + length ys ≤ k)
      → slice_get (replaced xs first ys) k ≡ slice_get xs k
  replaced-outside k (inl less) = replaced-before k less
  replaced-outside k (inr past) = replaced-behind k past

  -- the same, as clauses read an item
  pub get_or-replaced_before : (k : ℕ) (d : X) → k < first
      → get_or (replaced xs first ys) k d ≡ get_or xs k d
  get_or-replaced_before k d less =
      read_same (replaced xs first ys) xs k k d (replaced-before k less)

  pub get_or-replaced_within : (k : ℕ) (d : X) → first ≤ k → k < first + length ys
      → get_or (replaced xs first ys) k d ≡ get_or ys (k - first) d
  get_or-replaced_within k d from less =
      read_same (replaced xs first ys) ys k (k - first) d (replaced-within k from less)

  pub get_or-replaced_behind : (k : ℕ) (d : X) → first + length ys ≤ k
      → get_or (replaced xs first ys) k d ≡ get_or xs k d
  get_or-replaced_behind k d past =
      read_same (replaced xs first ys) xs k k d (replaced-behind k past)

  -- the part before stays
  pub take-replaced : take first (replaced xs first ys) ≡ take first xs
  take-replaced =
      take-append-le first (take first xs ++ ys) (drop (first + length ys) xs)
      (omega (arith, new_long))
      ∙ take-append-le first (take first xs) ys (omega (arith, front_long))
      ∙ take_all first (take first xs) (omega (arith, front_long))

  -- and so does the part from the end of what came in, or from a later place, on
  pub drop-replaced : (n : ℕ) → first + length ys ≤ n → drop n (replaced xs first ys) ≡ drop n xs
  drop-replaced n past =
      let seam : drop (length (take first xs ++ ys)) (replaced xs first ys)
      ≡ drop (first + length ys) xs =
      drop-append_seam (take first xs ++ ys) (drop (first + length ys) xs) in
      drop_on (first + length ys) n (replaced xs first ys) xs past
      (ap (λ k. drop k (replaced xs first ys)) (sym new_long) ∙ seam)

-- what ends within the list leaves its length
pub length-replaced : {X : Type 0} (xs ys : List X) (first : ℕ) → first + length ys ≤ length xs
    → length (replaced xs first ys) ≡ length xs
length-replaced xs ys first fits =
    let begins : first ≤ length xs = omega (arith, fits) in
    omega (arith, fits, length-replaced_past xs ys first begins)
