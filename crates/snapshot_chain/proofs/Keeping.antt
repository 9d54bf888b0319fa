-- What a chain keeps of its ids and layers when one comes or goes.
use Rattle.std.proofs.Common.{◌≡◌, ℕ, zero, suc, ◌+◌, ◌<◌, ◌≤◌, List, [], ◌∷◌, ◌++◌, length, set, get_or, Bool, false, eqb, nat_eq, ◌||◌, Result, Ok, Err, None, ◌∙◌, arith, refl}
use Rattle.std.specs.List.{list_any, remove, AllByRecursion}
use Rattle.std.proofs.lemmas.Bool.{ne_eqb, or_parts, or_from}
use Rattle.std.proofs.lemmas.List.Folds.{list_any-append}
use Rattle.std.specs.Result.{IsErrAnd}
use Rattle.snapshot_chain.specs.declared.chain.ChainRefused.{ChainRefused}
use Rattle.snapshot_chain.specs.declared.chain.ChainRefused.TheVariants.{NoMemory}
use Rattle.snapshot_chain.specs.Chain.{ChainState, IsKeptAfter}
use Rattle.snapshot_chain.specs.Fields.{IdsDiffer}

pub ids-push : (free id : ℕ) (ids : List ℕ) → free ≤ id → IdsDiffer free ids
    → IdsDiffer (id + 1) (ids ++ id ∷ [])
ids-push free id [] le are = (omega arith, refl, tt)
ids-push free id (j ∷ ids) le are = (
  omega (arith, le, are.0),
  list_any-append (nat_eq j) ids (id ∷ [])
      ∙ or_from (list_any (nat_eq j) ids) (eqb j id || false) are.1
      (rw (ne_eqb j id (λ same. omega (arith, same, le, are.0))) refl),
  ids-push free id ids le are.2,
)

remove-none : (p : ℕ → Bool) (ids : List ℕ) (i : ℕ) → list_any p ids ≡ false
    → list_any p (remove ids i) ≡ false
remove-none p [] zero none = refl
remove-none p [] (suc i) none = refl
remove-none p (j ∷ ids) zero none = (or_parts (p j) (list_any p ids) none).1
remove-none p (j ∷ ids) (suc i) none =
    or_from (p j) (list_any p (remove ids i)) ((or_parts (p j) (list_any p ids) none).0)
    (remove-none p ids i ((or_parts (p j) (list_any p ids) none).1))

pub ids-remove : (free : ℕ) (ids : List ℕ) (i : ℕ) → IdsDiffer free ids
    → IdsDiffer free (remove ids i)
ids-remove free [] zero are = tt
ids-remove free [] (suc i) are = tt
ids-remove free (j ∷ ids) zero are = are.2
ids-remove free (j ∷ ids) (suc i) are =
    (are.0, remove-none (nat_eq j) ids i are.1, ids-remove free ids i are.2)

module _ {X : Type 0} (P : X → Type 0) where
  pub all-set : (xs : List X) (i : ℕ) (x : X) → AllByRecursion P xs → P x
      → AllByRecursion P (set xs i x)
  all-set [] i x each here = tt
  all-set (y ∷ xs) zero x each here = (here, each.1)
  all-set (y ∷ xs) (suc i) x each here = (each.0, all-set xs i x each.1 here)

  pub all-remove : (xs : List X) (i : ℕ) → AllByRecursion P xs → AllByRecursion P (remove xs i)
  all-remove [] zero each = tt
  all-remove [] (suc i) each = tt
  all-remove (y ∷ xs) zero each = each.1
  all-remove (y ∷ xs) (suc i) each = (each.0, all-remove xs i each.1)

  pub all-at : (xs : List X) (i : ℕ) (d : X) → AllByRecursion P xs → i < length xs
      → P (get_or xs i d)
  all-at [] i d each less = absurd (omega (arith, less))
  all-at (y ∷ xs) zero d each less = each.0
  all-at (y ∷ xs) (suc i) d each less = all-at xs i d each.1 (omega (arith, less))

-- want of memory leaves all but the room for a merge
pub no_memory : {T : Type 0} (result : Result T ChainRefused) (old new : ChainState)
    → IsErrAnd result (λ why. why ≡ NoMemory) → new ≡ record old { merge_room = None }
    → IsKeptAfter result old new
no_memory (Ok answer) old new is same = tt
no_memory (Err why) old new is same = rw is same
