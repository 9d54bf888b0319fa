-- Lists by their last element, what is read in a part of a list, and searches over numbers.
use Rattle.std.proofs.Common.{◌≡◌, ℕ, zero, suc, ◌+◌, ◌<◌, ◌≤◌, List, [], ◌∷◌, ◌++◌, length, take, drop, get_or, Bool, true, false, cond, Option, Some, None, subst, sym, ap, refl, ◌∙◌, append_assoc, length-append, arith, inl, inr}
use Rattle.std.specs.List.{find, range_with_len, prefix_len, slice_get}
use Rattle.std.specs.Option.{option_or}
use Rattle.std.proofs.lemmas.Bool.{cases_eq}
use Rattle.std.proofs.lemmas.Option.{same_Some, none-some, slice_get_within, slice_get-get_or, get_or_from_slice_get}
use Rattle.std.proofs.lemmas.List.{append-nil, get_or_append_left, take-append-drop}
use Rattle.std.proofs.Math.Seq.{get_or-append_seam}

from_front : {X : Type 0} (P : List X → Type 0) → ((xs : List X) (x : X) → P xs → P (xs ++ x ∷ []))
    → (front rest : List X) → P front → P (front ++ rest)
from_front P more front [] p = subst P (sym (append-nil front)) p
from_front P more front (x ∷ xs) p =
    subst P (append_assoc front (x ∷ []) xs)
    (from_front P more (front ++ x ∷ []) xs (more front x p))

-- what holds of no elements, and with each element more, holds of every list
pub by_last : {X : Type 0} (P : List X → Type 0) → P []
    → ((xs : List X) (x : X) → P xs → P (xs ++ x ∷ [])) → (xs : List X) → P xs
by_last P none more xs = from_front P more [] xs none

-- the element at a place, and the list up to it
pub at_place : {X : Type 0} (xs : List X) (k : ℕ) → k < length xs
    → (x : X) × (slice_get xs k ≡ Some x) × (take (suc k) xs ≡ take k xs ++ x ∷ [])
at_place [] k h = absurd (omega arith)
at_place (x ∷ xs) zero h = (x, refl, refl)
at_place (x ∷ xs) (suc k) h = let rest = at_place xs k (omega arith) in
    (rest.0, rest.1, ap (λ (ys : List _). x ∷ ys) rest.2)

-- what is read in front of more, last, and in a front, is the element of the list
pub read-front : {X : Type 0} (xs ys : List X) (k : ℕ) (x : X) → k < length xs
    → slice_get (xs ++ ys) k ≡ Some x → slice_get xs k ≡ Some x
read-front xs ys k x less is =
    slice_get-get_or xs k x less
    ∙ ap Some (sym (get_or_append_left xs ys x k less)
    ∙ get_or_from_slice_get (xs ++ ys) k x x is)

pub read-last : {X : Type 0} (xs : List X) (x y : X) → slice_get (xs ++ x ∷ []) (length xs) ≡ Some y
    → x ≡ y
read-last xs x y is =
    sym (get_or-append_seam xs x [] y) ∙ get_or_from_slice_get (xs ++ x ∷ []) (length xs) y y is

pub read-take : {X : Type 0} (xs : List X) (n k : ℕ) (x : X) → slice_get (take n xs) k ≡ Some x
    → slice_get xs k ≡ Some x
read-take {X = X} xs n k x is =
    let within = slice_get_within (take n xs) k x is in
    let whole = take-append-drop n xs in
    let here : get_or xs k x ≡ x =
    ap (λ (zs : List X). get_or zs k x) (sym whole)
    ∙ get_or_append_left (take n xs) (drop n xs) x k within
    ∙ get_or_from_slice_get (take n xs) k x x is in
    slice_get-get_or xs k x (let long = ap (λ (zs : List X). length zs) whole in
    omega (arith, within, long, length-append (take n xs) (drop n xs))) ∙ ap Some here

-- ---- the first place that passes a test

prefix_step : {X : Type 0} (p : X → Bool) (x : X) (xs ys : List X) (b : Bool) → p x ≡ b
    → (prefix_len p xs < length xs → prefix_len p (xs ++ ys) ≡ prefix_len p xs)
    → cond (p x) (1 + prefix_len p xs) 0 < suc (length xs)
    → cond (p x) (1 + prefix_len p (xs ++ ys)) 0 ≡ cond (p x) (1 + prefix_len p xs) 0
prefix_step p x xs ys true is more less =
    let long : cond (p x) (1 + prefix_len p xs) 0 ≡ 1 + prefix_len p xs =
    ap (λ c. cond c (1 + prefix_len p xs) 0) is in
    ap (λ n. cond (p x) (1 + n) 0) (more (omega arith))
prefix_step p x xs ys false is more less = ap (λ c. cond c (1 + prefix_len p (xs ++ ys)) 0) is
    ∙ sym (ap (λ c. cond c (1 + prefix_len p xs) 0) is)

pub prefix_len-append : {X : Type 0} (p : X → Bool) (xs ys : List X) → prefix_len p xs < length xs
    → prefix_len p (xs ++ ys) ≡ prefix_len p xs
prefix_len-append p [] ys less = absurd (omega arith)
prefix_len-append p (x ∷ xs) ys less =
    prefix_step p x xs ys (p x) refl (prefix_len-append p xs ys) less

-- ---- searches over numbers

pub find_push : (test : ℕ → Bool) (a n : ℕ)
    → find test (range_with_len a (suc n))
    ≡ option_or (find test (range_with_len a n)) (cond (test (a + n)) (Some (a + n)) None)
find_push test a zero =
    (let e : a + 0 ≡ a = omega arith in ap (λ n. cond (test n) (Some n) None) (sym e) ∙ refl)
find_push test a (suc n) = by (test a) refl (find_push test (a + 1) n)
  where
    by : (b : Bool) → test a ≡ b
        → find test (range_with_len (a + 1) (suc n))
        ≡ option_or (find test (range_with_len (a + 1) n))
        (cond (test (a + 1 + n)) (Some (a + 1 + n)) None)
        → cond (test a) (Some a) (find test (range_with_len (a + 1) (suc n)))
        ≡ option_or (cond (test a) (Some a) (find test (range_with_len (a + 1) n)))
        (cond (test (a + suc n)) (Some (a + suc n)) None)
    by true is rest = rw is refl
    by false is rest = rw is
        (rest ∙ (let e : a + 1 + n ≡ a + suc n = omega arith in
        ap (λ k. option_or (find test (range_with_len (a + 1) n)) (cond (test k) (Some k) None)) e))

pub find_same : (p q : ℕ → Bool) (a n : ℕ) → ((k : ℕ) → k < a + n → p k ≡ q k)
    → find p (range_with_len a n) ≡ find q (range_with_len a n)
find_same p q a zero same = refl
find_same p q a (suc n) same =
    ap (λ b. cond b (Some a) (find p (range_with_len (a + 1) n))) (same a (omega arith))
    ∙ ap (λ (o : Option ℕ). cond (q a) (Some a) o)
    (find_same p q (a + 1) n (λ k less. same k (omega (arith, less))))

-- the first number of a range that passes a test
pub find-range_at : (test : ℕ → Bool) (a n i : ℕ) → i < n → ((k : ℕ) → k < i → test (a + k) ≡ false)
    → test (a + i) ≡ true → find test (range_with_len a n) ≡ Some (a + i)
find-range_at test a zero i inside none here = absurd (omega arith)
find-range_at test a (suc n) zero inside none here =
    let at : a + 0 ≡ a = omega arith in
    ap (λ b. cond b (Some a) (find test (range_with_len (a + 1) n))) (ap test (sym at) ∙ here)
    ∙ ap Some (sym at)
find-range_at test a (suc n) (suc i) inside none here =
    let first : a + 0 ≡ a = omega arith in
    let at : a + suc i ≡ a + 1 + i = omega arith in
    ap (λ b. cond b (Some a) (find test (range_with_len (a + 1) n)))
    (ap test (sym first) ∙ none 0 (omega arith))
    ∙ find-range_at test (a + 1) n i (omega arith)
    (λ k h. let later : a + 1 + k ≡ a + suc k = omega arith in
    ap test later ∙ none (suc k) (omega arith)) (ap test (sym at) ∙ here)
    ∙ ap Some (sym at)

pub find-range_none : (test : ℕ → Bool) (a n : ℕ) → ((k : ℕ) → k < n → test (a + k) ≡ false)
    → find test (range_with_len a n) ≡ None
find-range_none test a zero none = refl
find-range_none test a (suc n) none =
    let first : a + 0 ≡ a = omega arith in
    ap (λ b. cond b (Some a) (find test (range_with_len (a + 1) n)))
    (ap test (sym first) ∙ none 0 (omega arith))
    ∙ find-range_none test (a + 1) n (λ k h. let later : a + 1 + k ≡ a + suc k = omega arith in
    ap test later ∙ none (suc k) (omega arith))

-- ---- what a search of a range has found

pub record FoundAt (test : ℕ → Bool) (a n k : ℕ) : Type 0 where
  pub from : a ≤ k
  pub below : k < a + n
  pub passes_there : test k ≡ true
  pub none_before : (j : ℕ) → a ≤ j → j < k → test j ≡ false

none-step : (test : ℕ → Bool) (a k j : ℕ) → test a ≡ false
    → ((j : ℕ) → a + 1 ≤ j → j < k → test j ≡ false) → a ≤ j → j < k → test j ≡ false
none-step test a k j is none from less =
    elim (cases_eq j a) [
      | inl same ↦ ap test same ∙ is
      | inr other ↦ none j (omega (arith, other)) less
    ]

found-step : (test : ℕ → Bool) (a n k : ℕ) (b : Bool) → test a ≡ b
    → cond b (Some a) (find test (range_with_len (a + 1) n)) ≡ Some k
    → (find test (range_with_len (a + 1) n) ≡ Some k → FoundAt test (a + 1) n k)
    → FoundAt test a (suc n) k
found-step test a n k true is h more =
    let same : a ≡ k = same_Some a k h in
    record {
      from = omega (arith, same);
      below = omega (arith, same);
      passes_there = ap test (sym same) ∙ is;
      none_before = λ j low less. absurd (omega (arith, same));
    }
found-step test a n k false is h more =
    let rest = more h in
    let low = rest.from in
    let high = rest.below in
    record {
      from = omega (arith, low);
      below = omega (arith, high);
      passes_there = rest.passes_there;
      none_before = λ j from less. none-step test a k j is (rest.none_before) from less;
    }

pub found-in : (test : ℕ → Bool) (a n k : ℕ) → find test (range_with_len a n) ≡ Some k
    → FoundAt test a n k
found-in test a zero k h = absurd (none-some k h)
found-in test a (suc n) k h = found-step test a n k (test a) refl h (found-in test (a + 1) n k)
