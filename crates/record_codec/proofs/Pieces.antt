-- Pieces of bytes in a row: what one item more adds, and how long they are.
use Rattle.std.proofs.Common.{◌≡◌, ℕ, zero, suc, ◌+◌, ◌*◌, ◌<◌, ◌≤◌, List, [], ◌∷◌, ◌++◌, length, map, take, slice_index_or, sym, ap, subst, ◌∙◌, arith, add-one, append_assoc, append-nil, length-append}
use Rattle.std.specs.List.{concat, All, AllByRecursion}
use Rattle.std.proofs.lemmas.List.{take_all}
use Rattle.std.proofs.lemmas.List.Elements.{recursion_from_All}

concat_suc : {A : Type 0} (f : A → List ℕ) (xs : List A) (i : ℕ) (d : A) → i < length xs
    → concat (map f (take (suc i) xs)) ≡ concat (map f (take i xs)) ++ f (slice_index_or xs i d)
concat_suc f [] i d h = absurd (omega arith)
concat_suc f (x ∷ xs) zero d h = simp append-nil
concat_suc f (x ∷ xs) (suc i) d h =
    ap (λ (ys : List ℕ). f x ++ ys) (concat_suc f xs i d (omega arith))
    ∙ sym (append_assoc (f x) _ _)

pub concat_step : {A : Type 0} (f : A → List ℕ) (xs : List A) (i : ℕ) (d : A) → i < length xs
    → concat (map f (take (i + 1) xs)) ≡ concat (map f (take i xs)) ++ f (slice_index_or xs i d)
concat_step f xs i d h = rw add-one (concat_suc f xs i d h)

pub length-concat : {A : Type 0} (f : A → List ℕ) (n : ℕ) (each : (x : A)
    → length (f x) ≡ n) (xs : List A)
    → length (concat (map f xs)) ≡ n * length xs
length-concat f n each [] = omega arith
length-concat f n each (x ∷ xs) =
    length-append (f x) (concat (map f xs))
    ∙ (let e = each x in let rest = length-concat f n each xs in omega arith)

-- a write behind what was written, of the item at i
pub put_step : {A : Type 0} (f : A → List ℕ) (xs : List A) (i : ℕ) (d : A)
    (start before now : List ℕ) → i < length xs
    → before ≡ start ++ concat (map f (take i xs)) → now ≡ before ++ f (slice_index_or xs i d)
    → now ≡ start ++ concat (map f (take (i + 1) xs))
put_step f xs i d start before now h was wrote =
    wrote ∙ ap (λ (ys : List ℕ). ys ++ f (slice_index_or xs i d)) was
    ∙ append_assoc start (concat (map f (take i xs))) (f (slice_index_or xs i d))
    ∙ ap (λ (ys : List ℕ). start ++ ys) (sym (concat_step f xs i d h))

-- what holds of each item that was taken, all of them
pub all_taken : {A : Type 0} (P : A → Type 0) (xs : List A) (i : ℕ) → length xs ≤ i
    → All P (take i xs) → AllByRecursion P xs
all_taken {A = A} P xs i h each =
    recursion_from_All P xs (subst (λ (taken : List A). All P taken) (take_all i xs h) each)
