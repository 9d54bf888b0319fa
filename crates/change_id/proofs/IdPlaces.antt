-- The mark of an identifier, by the last entry of a list: the identifier in force, where it isn't
-- found yet, is found at the last.
use Rattle.std.proofs.Common.{◌≡◌, ℕ, suc, ◌+◌, ◌<◌, List, [], ◌∷◌, ◌++◌, length, take, Bool, true, false, cond, Option, Some, None, sym, ap, ◌∙◌, arith, length-append}
use Rattle.std.specs.List.{find, range_with_len}
use Rattle.std.specs.Option.{option_or}
use Rattle.std.proofs.lemmas.Bool.{false≢true}
use Rattle.std.proofs.lemmas.Option.{none-some}
use Rattle.std.proofs.lemmas.List.{take-append-le, take_all}
use Rattle.change_id.specs.History.{Reading, in_force, is_id, mark_of_id}
use Rattle.change_id.specs.declared.ChangeId.{ChangeId}
use Rattle.change_id.proofs.Ends.{by_last, find_push, find_same, found-in}

pub mark_of_id-push : {E : Type 0} (reading : Reading E) (machine disk : ℕ) (id : ChangeId)
    (h : List E) (x : E)
    → mark_of_id reading machine disk id (h ++ x ∷ [])
    ≡ option_or (mark_of_id reading machine disk id h)
    (cond (is_id id (in_force reading machine disk (h ++ x ∷ []))) (Some (length h)) None)
mark_of_id-push {E = E} reading machine disk id h x =
    let whole : List E = h ++ x ∷ [] in
    let test : ℕ → Bool = λ k. is_id id (in_force reading machine disk (take (k + 1) whole)) in
    let long : length whole ≡ suc (length h) = omega (arith, length-append h (x ∷ [])) in
    ap (λ n. find test (range_with_len 0 n)) long ∙ find_push test 0 (length h)
    ∙ (λ i. option_or
    (find_same test (λ k. is_id id (in_force reading machine disk (take (k + 1) h))) 0 (length h)
    (λ k less. ap (λ (xs : List E). is_id id (in_force reading machine disk xs))
    (take-append-le (k + 1) h (x ∷ []) (omega (arith, less)))) i)
    ((let e : 0 + length h ≡ length h = omega arith in ap (λ k. cond (test k) (Some k) None) e
    ∙ ap (λ (xs : List E). cond (is_id id (in_force reading machine disk xs)) (Some (length h))
    None) (take_all (length h + 1) whole (omega (arith, long)))) i))

-- what is found is a place of the list
pub found-within : {E : Type 0} (reading : Reading E) (machine disk : ℕ) (id : ChangeId)
    (h : List E) (p : ℕ) → mark_of_id reading machine disk id h ≡ Some p → p < length h
found-within reading machine disk id h p found =
    let at = found-in (λ place. is_id id (in_force reading machine disk (take (place + 1) h))) 0
    (length h) p found in
    let below = at.below in
    omega (arith, below)

-- the identifier in force is found
pub found-now : {E : Type 0} (reading : Reading E) (machine disk : ℕ) (id : ChangeId) (h : List E)
    → is_id id (in_force reading machine disk h) ≡ true
    → mark_of_id reading machine disk id h ≡ None → ⊥
found-now {E = E} reading machine disk id =
    by_last (λ (xs : List E). is_id id (in_force reading machine disk xs) ≡ true
    → mark_of_id reading machine disk id xs ≡ None → ⊥) (λ is none. false≢true is) step
  where
    by : (o : Option ℕ) (b : Bool) (n : ℕ) → b ≡ true → option_or o (cond b (Some n) None) ≡ None
        → ⊥
    by None true n is h = none-some n (sym h)
    by None false n is h = false≢true is
    by (Some q) b n is h = none-some q (sym h)

    step : (xs : List E) (x : E)
        → (is_id id (in_force reading machine disk xs) ≡ true
        → mark_of_id reading machine disk id xs ≡ None → ⊥)
        → is_id id (in_force reading machine disk (xs ++ x ∷ [])) ≡ true
        → mark_of_id reading machine disk id (xs ++ x ∷ []) ≡ None → ⊥
    step xs x old is none =
        by (mark_of_id reading machine disk id xs)
        (is_id id (in_force reading machine disk (xs ++ x ∷ []))) (length xs) is
        (sym (mark_of_id-push reading machine disk id xs x) ∙ none)
