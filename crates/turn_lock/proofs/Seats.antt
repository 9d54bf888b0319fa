-- Lists of views: a view changed, a view added, and how many there are of a kind.
use Rattle.std.proofs.Common.{◌≡◌, ◌≢◌, ◌⊎◌, ℕ, zero, suc, ◌+◌, ◌<◌, ◌≤◌, eqb, List, [], ◌∷◌, ◌++◌, length, set, get_or, Bool, true, false, cond, refl, sym, ap, ◌∙◌, arith, inl, inr, ⊎_elim, count_by, eq-eqb, ne_eqb}
use Rattle.std.proofs.lemmas.List.Sums.{sum_by-set, sum_by-append, sum_by-le-sum_by}
use mathlib.Core.Option.{some, some-injective, some-ne-none}
use lib.ListN.{get_elem?}
use Rattle.atomic_table.proofs.Lists.{set_else}

-- a table with one place changed
abbrev pub put : {A : Type 0} → (ℕ → A) → ℕ → A → ℕ → A
put f k x n = cond (eqb n k) x (f n)

pub put_here : {A : Type 0} (f : ℕ → A) (k : ℕ) (x : A) (n : ℕ) → n ≡ k → put f k x n ≡ x
put_here f k x n e = ap (λ b. cond b x (f n)) (eq-eqb n k e)

pub put_else : {A : Type 0} (f : ℕ → A) (k : ℕ) (x : A) (n : ℕ) → n ≢ k → put f k x n ≡ f n
put_else f k x n ne = ap (λ b. cond b x (f n)) (ne_eqb n k ne)

abbrev pub bit : Bool → ℕ
bit b = cond b 1 0

module _ {A : Type 0} where
  pub at_within : (l : List A) (i : ℕ) (a : A) → get_elem? l i ≡ some a → i < length l
  at_within [] i a e = absurd (some-ne-none a (sym e))
  at_within (x ∷ xs) zero a e = omega arith
  at_within (x ∷ xs) (suc i) a e = omega (arith, at_within xs i a e)

  pub at_value : (l : List A) (i : ℕ) (a : A) → get_elem? l i ≡ some a → get_or l i a ≡ a
  at_value [] i a e = absurd (some-ne-none a (sym e))
  at_value (x ∷ xs) zero a e = some-injective x a e
  at_value (x ∷ xs) (suc i) a e = at_value xs i a e

  pub there : (l : List A) (i : ℕ) → i < length l → (a : A) × (get_elem? l i ≡ some a)
  there [] i h = absurd (omega arith)
  there (x ∷ xs) zero h = (x, refl)
  there (x ∷ xs) (suc i) h = there xs i (omega arith)

  -- the last, or one of those before
  pub at_added : (l : List A) (b : A) (i : ℕ) (a : A) → get_elem? (l ++ b ∷ []) i ≡ some a
      → ((i ≡ length l) × (b ≡ a)) ⊎ (get_elem? l i ≡ some a)
  at_added [] b zero a e = inl (refl, some-injective b a e)
  at_added [] b (suc i) a e = absurd (some-ne-none a (sym e))
  at_added (x ∷ xs) b zero a e = inr e
  at_added (x ∷ xs) b (suc i) a e =
      ⊎_elim (λ h. inl (ap suc h.0, h.1)) (λ h. inr h) (at_added xs b i a e)

  pub one_place : (l : List A) (i : ℕ) (a b : A) → get_elem? l i ≡ some a → get_elem? l i ≡ some b
      → a ≡ b
  one_place l i a b e f = some-injective a b (sym e ∙ f)

  pub count_set : (p : A → Bool) (l : List A) (i : ℕ) (v w : A) → get_elem? l i ≡ some v
      → count_by p (set l i w) + bit (p v) ≡ count_by p l + bit (p w)
  count_set p l i v w at =
      ap (λ x. count_by p (set l i w) + bit (p x)) (sym (at_value l i v at))
      ∙ sum_by-set (λ x. bit (p x)) l i w v (at_within l i v at)

  pub count_same : (p : A → Bool) (l : List A) (i : ℕ) (v w : A) → get_elem? l i ≡ some v
      → p w ≡ p v → count_by p (set l i w) ≡ count_by p l
  count_same p l i v w at e = omega (arith, count_set p l i v w at, ap bit e)

  pub count_added : (p : A → Bool) (l : List A) (w : A)
      → count_by p (l ++ w ∷ []) ≡ count_by p l + bit (p w)
  count_added p l w = sum_by-append (λ x. bit (p x)) l (w ∷ []) ∙ (omega arith)

  pub count_within : (p q : A → Bool) (l : List A) → ((x : A) → bit (p x) ≤ bit (q x))
      → count_by p l ≤ count_by q l
  count_within p q l h = sum_by-le-sum_by (λ x. bit (p x)) (λ x. bit (q x)) l h

  -- two different places that pass a test, where one value doesn't
  pub two_of_them : (p : A → Bool) (none : A) → p none ≡ false → (l : List A) (i j : ℕ) (a b : A)
      → get_elem? l i ≡ some a → get_elem? l j ≡ some b → j ≢ i
      → p a ≡ true → p b ≡ true → 2 ≤ count_by p l
  two_of_them p none off l i j a b at bt ne pa pb =
      let l' : List A = set l i none in
      let one = count_set p l i a none at in
      let two = count_set p l' j b none (set_else l i j none ne ∙ bt) in
      omega (arith, one, two, ap bit off, ap bit pa, ap bit pb)
