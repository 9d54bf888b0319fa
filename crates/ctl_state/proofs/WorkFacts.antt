-- The map of the machines at work, as machines are put in and taken out one by one.
use Rattle.std.proofs.Common.{◌≡◌, ◌≢◌, ℕ, zero, suc, ◌+◌, ◌==◌, ◌<◌, Bool, true, false, cond, ◌||◌, not, List, [], ◌∷◌, length, drop, get_or, Option, Some, None, is_some, refl, ap, subst, sym, ◌∙◌, add-one, inl, inr}
use Rattle.std.proofs.Math.Seq.{drop-cons}
use Rattle.std.specs.List.{list_any}
use Rattle.std.specs.BTreeMap.{get, is_at}
use Rattle.std.specs.Ordering.{nat_cmp, is_eq}
use Rattle.std.proofs.lemmas.Bool.{eqb-true, eq-eqb}
use Rattle.std.proofs.lemmas.Bool.Decides.{eqb_tells}
use Rattle.basics.proofs.Options.{none_is}
use Rattle.ctl_state.specs.Value.{is_listed}
use Rattle.ctl_state.specs.MayStand.{has_double}
use Rattle.ctl_state.specs.Work.{Work, is_in, HasNone, Joins}
use Rattle.ctl_state.proofs.KeptFacts.{is_eq-nat_cmp, listed_fails}

-- the list from a place on has the machine there first
from_place : (vms : List ℕ) (i v : ℕ) → i < length vms
    → is_listed (drop i vms) v ≡ (get_or vms i 0 == v || is_listed (drop (i + 1) vms) v)
from_place vms i v h = ap (λ (xs : List ℕ). is_listed xs v) (drop-cons vms i 0 h)
    ∙ ap (λ n. get_or vms i 0 == v || is_listed (drop n vms) v) (sym (add-one i))

leave_by : (b r : Bool) (old new : Option (Option ℕ)) → new ≡ cond b None old
    → cond r None new ≡ cond (b || r) None old
leave_by true true old new e = refl
leave_by true false old new e = e
leave_by false true old new e = refl
leave_by false false old new e = e

-- one more is taken out
pub leave_next : (vms : List ℕ) (i v : ℕ) (old new : Option (Option ℕ)) → i < length vms
    → new ≡ cond (is_at (nat_cmp (get_or vms i 0)) v) None old
    → cond (is_listed (drop (i + 1) vms) v) None new ≡ cond (is_listed (drop i vms) v) None old
leave_next vms i v old new h e =
    let x = get_or vms i 0 in
    leave_by (x == v) (is_listed (drop (i + 1) vms) v) old new
    (e ∙ ap (λ b. cond b None old) (is_eq-nat_cmp x v))
    ∙ ap (λ b. cond b None old) (sym (from_place vms i v h))

join_by : (b r : Bool) (base old new : Option (Option ℕ)) → new ≡ cond b (Some None) old
    → old ≡ cond r (Some None) base → new ≡ cond (b || r) (Some None) base
join_by true r base old new e k = e
join_by false r base old new e k = e ∙ k

-- one more is put in
pub join_next : (vms : List ℕ) (i v : ℕ) (base old new : Option (Option ℕ)) → i < length vms
    → new ≡ cond (is_at (nat_cmp (get_or vms i 0)) v) (Some None) old
    → old ≡ cond (is_listed (drop (i + 1) vms) v) (Some None) base
    → new ≡ cond (is_listed (drop i vms) v) (Some None) base
join_next vms i v base old new h e k =
    let x = get_or vms i 0 in
    join_by (x == v) (is_listed (drop (i + 1) vms) v) base old new
    (e ∙ ap (λ b. cond b (Some None) old) (is_eq-nat_cmp x v)) k
    ∙ ap (λ b. cond b (Some None) base) (sym (from_place vms i v h))

-- one that wasn't in isn't among those that are
pub new_differs : (vms : List ℕ) (i : ℕ) (base old : Option (Option ℕ)) → i < length vms
    → old ≡ None
    → old ≡ cond (is_listed (drop (i + 1) vms) (get_or vms i 0)) (Some None) base
    → has_double (drop (i + 1) vms) ≡ false → has_double (drop i vms) ≡ false
new_differs vms i base old h absent k differ =
    let x = get_or vms i 0 in
    ap has_double (drop-cons vms i 0 h)
    ∙ ap (λ n. is_listed (drop n vms) x || has_double (drop n vms)) (sym (add-one i))
    ∙ ap (λ b. b || has_double (drop (i + 1) vms))
    (unlisted (is_listed (drop (i + 1) vms) x) (sym k ∙ absent))
    ∙ differ
  where
    unlisted : (b : Bool) → cond b (Some None) base ≡ None → b ≡ false
    unlisted true e = absurd (cc)
    unlisted false e = refl

-- one that was in stands twice
pub old_doubles : (vms : List ℕ) (i : ℕ) (base old : Option (Option ℕ)) (value : Option ℕ)
    → i < length vms → old ≡ Some value → base ≡ None
    → old ≡ cond (is_listed (drop (i + 1) vms) (get_or vms i 0)) (Some None) base
    → is_listed (drop (i + 1) vms) (get_or vms i 0) ≡ true
old_doubles vms i base old value h present absent k =
    listed (is_listed (drop (i + 1) vms) (get_or vms i 0)) (sym k ∙ present)
  where
    listed : (b : Bool) → cond b (Some None) base ≡ Some value → b ≡ true
    listed true e = refl
    listed false e = absurd (cc)

double_more : (x : ℕ) (xs : List ℕ) → has_double xs ≡ true → has_double (x ∷ xs) ≡ true
double_more x xs h = elim (is_listed xs x) as (λ b. (b || has_double xs) ≡ true)
    [ true ↦ refl | false ↦ h ]

double_drop : (xs : List ℕ) (i : ℕ) → has_double (drop i xs) ≡ true → has_double xs ≡ true
double_drop xs zero h = h
double_drop [] (suc i) h = h
double_drop (x ∷ xs) (suc i) h = double_more x xs (double_drop xs i h)

pub listed_twice : (vms : List ℕ) (i : ℕ) → i < length vms
    → is_listed (drop (i + 1) vms) (get_or vms i 0) ≡ true → has_double vms ≡ true
listed_twice vms i h listed = double_drop vms i
    (ap has_double (drop-cons vms i 0 h)
    ∙ ap (λ n. is_listed (drop n vms) (get_or vms i 0) || has_double (drop n vms)) (sym (add-one i))
    ∙ ap (λ b. b || has_double (drop (i + 1) vms)) listed)

listed_more : (x v : ℕ) (xs : List ℕ) → is_listed xs v ≡ true → is_listed (x ∷ xs) v ≡ true
listed_more x v xs h = elim (x == v) as (λ b. (b || is_listed xs v) ≡ true)
    [ true ↦ refl | false ↦ h ]

listed_drop : (xs : List ℕ) (i v : ℕ) → is_listed (drop i xs) v ≡ true → is_listed xs v ≡ true
listed_drop xs zero v h = h
listed_drop [] (suc i) v h = h
listed_drop (x ∷ xs) (suc i) v h = listed_more x v xs (listed_drop xs i v h)

-- nothing is kept of what stands from a place on in a list of which nothing is kept
pub none_from : (work : Work) (vms : List ℕ) (i v : ℕ) → HasNone work vms
    → is_listed (drop i vms) v ≡ true → get nat_cmp work v ≡ None
none_from work vms i v free listed =
    none_is (get nat_cmp work v) (listed_fails (is_in work) vms v free (listed_drop vms i v listed))

pub none_at : (work : Work) (vms : List ℕ) (i : ℕ) → HasNone work vms → i < length vms
    → get nat_cmp work (get_or vms i 0) ≡ None
none_at work vms i free h = none_from work vms i (get_or vms i 0) free
    (from_place vms i (get_or vms i 0) h
    ∙ ap (λ b. b || is_listed (drop (i + 1) vms) (get_or vms i 0))
    (eq-eqb (get_or vms i 0) (get_or vms i 0) refl))

-- those that were put in so far are taken out again
pub undone : (work now : Work) (vms : List ℕ) (i v : ℕ) (left : Option (Option ℕ))
    → HasNone work vms
    → left ≡ cond (is_listed (drop i vms) v) None (get nat_cmp now v)
    → (is_listed (drop i vms) v ≡ false → get nat_cmp now v ≡ get nat_cmp work v)
    → left ≡ get nat_cmp work v
undone work now vms i v left free e other = by_test (is_listed (drop i vms) v) refl
  where
    by_test : (b : Bool) → is_listed (drop i vms) v ≡ b → left ≡ get nat_cmp work v
    by_test true h = e ∙ ap (λ b. cond b None (get nat_cmp now v)) h
        ∙ sym (none_from work vms i v free h)
    by_test false h = e ∙ ap (λ b. cond b None (get nat_cmp now v)) h ∙ other h

-- beside those put in, the map is as it was, also where one of them was put in again
pub beside : (vms : List ℕ) (i x v : ℕ) (base old new : Option (Option ℕ))
    → new ≡ cond (is_at (nat_cmp x) v) (Some None) old
    → old ≡ cond (is_listed (drop i vms) v) (Some None) base
    → is_listed (drop i vms) x ≡ true → is_listed (drop i vms) v ≡ false → new ≡ base
beside vms i x v base old new e k inside out =
    let differ : (x == v) ≡ false = elim (eqb_tells x v) [
      | inl h ↦ absurd (let s = sym inside ∙ ap (is_listed (drop i vms)) h.1 ∙ out in cc)
      | inr h ↦ h.0
    ] in
    e ∙ ap (λ b. cond b (Some None) old) (is_eq-nat_cmp x v ∙ differ)
    ∙ k ∙ ap (λ b. cond b (Some None) base) out
