-- The touches inside a window, which lie next to each other.
use Rattle.std.proofs.Common.{◌≡◌, ℕ, zero, suc, ◌+◌, ◌<◌, ◌≤◌, List, [], ◌∷◌, ◌++◌, length, take, drop, get_or, Bool, true, false, ◌&&◌, ◌||◌, ltb, leb, length-drop, sym, ap, refl, ◌∙◌, arith}
use Rattle.std.specs.List.{list_any}
use Rattle.std.specs.List.Sorted.{IsPartitionPoint, IsNonDecreasingBy}
use Rattle.std.proofs.Math.Bool.{or-false}
use Rattle.std.proofs.lemmas.Bool.{ltb-true, lt-leb}
use Rattle.std.proofs.lemmas.List.{take-append-drop, get_or-drop}
use Rattle.std.proofs.lemmas.List.Folds.{list_any-append}
use Rattle.change_tracker.specs.declared.word.Touch.{Touch}
use Rattle.change_tracker.specs.declared.word.Window.{Window}
use Rattle.basics.specs.Bits.{has_bit}
use Rattle.change_tracker.specs.Touches.{is_of}
use Rattle.change_tracker.specs.Rising.{AreRising}

past : (from bound : ℕ) (xs : List Touch) (j : ℕ) (d : Touch) → AreRising from bound xs
    → j < length xs → from ≤ (get_or xs j d).freezes
past from bound [] j d are less = absurd (omega arith)
past from bound (x ∷ xs) zero d are less = are.0
past from bound (x ∷ xs) (suc j) d are less =
    omega (arith, past (x.freezes + 1) bound xs j d are.1 (omega (arith, less)), are.0)

pub rise : (from bound : ℕ) (xs : List Touch) → AreRising from bound xs
    → IsNonDecreasingBy (λ x. x.freezes) xs
rise from bound [] are i j d le less = absurd (omega arith)
rise from bound (x ∷ xs) are zero zero d le less = omega arith
rise from bound (x ∷ xs) are zero (suc j) d le less =
    omega (arith, past (x.freezes + 1) bound xs j d are.1 (omega (arith, less)))
rise from bound (x ∷ xs) are (suc i) zero d le less = absurd (omega arith)
rise from bound (x ∷ xs) are (suc i) (suc j) d le less =
    rise (x.freezes + 1) bound xs are.1 i j d (omega (arith, le)) (omega (arith, less))

none_before : (p : Touch → Bool) (xs : List Touch) (n : ℕ)
    → ((k : ℕ) (d : Touch) → k < n → k < length xs → p (get_or xs k d) ≡ false)
    → list_any p (take n xs) ≡ false
none_before p xs zero none = refl
none_before p [] (suc n) none = refl
none_before p (x ∷ xs) (suc n) none =
    (λ i. none 0 x (omega arith) (omega arith) i || none_before p xs n
    (λ k d less within. none (suc k) d (omega (arith, less)) (omega (arith, within))) i)

none_after : (p : Touch → Bool) (xs : List Touch) (n : ℕ)
    → ((k : ℕ) (d : Touch) → n ≤ k → k < length xs → p (get_or xs k d) ≡ false)
    → list_any p (drop n xs) ≡ false
none_after p [] zero none = refl
none_after p [] (suc n) none = refl
none_after p (x ∷ xs) zero none =
    (λ i. none 0 x (omega arith) (omega arith) i || none_after p xs zero
    (λ k d low within. none (suc k) d (omega arith) (omega (arith, within))) i)
none_after p (x ∷ xs) (suc n) none =
    none_after p xs n (λ k d low within. none (suc k) d (omega (arith, low))
    (omega (arith, within)))

and_false : (a b : Bool) → (a && false && b) ≡ false
and_false true b = refl
and_false false b = refl

abbrev pub Splits : ℕ → List Touch → ℕ → Type 0
Splits at xs n = IsPartitionPoint (λ x. ltb x.freezes at ≡ true) (λ x. ltb x.freezes at ≡ false) xs
    n

pub inside : (w : Window) (place : ℕ) (xs : List Touch) (start count : ℕ) → Splits w.from xs start
    → Splits w.end (drop start xs) count
    → list_any (is_of w place) (take count (drop start xs)) ≡ list_any (is_of w place) xs
inside w place xs start count low high =
    let early : list_any (is_of w place) (take start xs) ≡ false =
    none_before (is_of w place) xs start (λ k d less within.
    let before = ltb-true (get_or xs k d).freezes w.from (low.0 k d (omega arith) less) in
    ap (λ x. (x && ltb (get_or xs k d).freezes w.end) && has_bit (get_or xs k d).bits place)
    (lt-leb w.from (get_or xs k d).freezes before)) in
    let late : list_any (is_of w place) (drop count (drop start xs)) ≡ false =
    none_after (is_of w place) (drop start xs) count (λ k d from within.
    let behind = high.1 k d from within in
    ap (λ x. (leb w.from (get_or (drop start xs) k d).freezes && x) && has_bit
    (get_or (drop start xs) k d).bits place) behind
    ∙ and_false (leb w.from (get_or (drop start xs) k d).freezes)
    (has_bit (get_or (drop start xs) k d).bits place)) in
    let rest : list_any (is_of w place) (drop start xs)
    ≡ list_any (is_of w place) (take count (drop start xs)) =
    ap (list_any (is_of w place)) (sym (take-append-drop count (drop start xs)))
    ∙ list_any-append (is_of w place) (take count (drop start xs)) (drop count (drop start xs))
    ∙ ap (λ x. list_any (is_of w place) (take count (drop start xs)) || x) late
    ∙ or-false (list_any (is_of w place) (take count (drop start xs))) in
    sym (ap (list_any (is_of w place)) (sym (take-append-drop start xs))
    ∙ list_any-append (is_of w place) (take start xs) (drop start xs)
    ∙ ap (λ x. x || list_any (is_of w place) (drop start xs)) early ∙ rest)

pub rising_push : (from bound : ℕ) (xs : List Touch) (x : Touch) (top : ℕ) → AreRising from bound xs
    → bound ≤ x.freezes → x.freezes < top → AreRising from top (xs ++ x ∷ [])
rising_push from bound [] x top are le less = (omega (arith, are, le), omega (arith, less))
rising_push from bound (y ∷ xs) x top are le less =
    (are.0, rising_push (y.freezes + 1) bound xs x top are.1 le less)

pub rising_more : (from bound top : ℕ) (xs : List Touch) → bound ≤ top → AreRising from bound xs
    → AreRising from top xs
rising_more from bound top [] le are = omega (arith, le, are)
rising_more from bound top (x ∷ xs) le are =
    (are.0, rising_more (x.freezes + 1) bound top xs le are.1)
