-- Lists of live snapshots, whose numbers ascend.
use Rattle.std.proofs.Common.{◌≡◌, ◌≢◌, ℕ, zero, suc, ◌+◌, ◌-◌, ◌<◌, ◌≤◌, ◌⊎◌, List, [], ◌∷◌, ◌++◌, length, get_or, drop, Bool, true, false, cond, not, eqb, ltb, Option, Some, None, option_map, sym, ap, refl, ◌∙◌, arith, inl, inr, length-drop}
use Rattle.std.specs.List.{slice_get, find, remove, All}
use Rattle.std.specs.List.Sorted.{IsPartitionPoint, IsNonDecreasingBy}
use Rattle.std.proofs.lemmas.Bool.{cases_lt, cases_eq, eqb-true, eqb-false, eq-eqb, ne_eqb, ltb-true, ltb-false}
use Rattle.std.proofs.lemmas.Option.{none-some, same_Some, slice_get_within, slice_get-get_or, get_or_from_slice_get}
use Rattle.std.proofs.lemmas.List.Elements.{All-head, All-tail}
use Rattle.std.proofs.lemmas.List.Quantifiers.{all_pairs_push}
use Rattle.basics.proofs.ItemAt.{slice_get-drop}
use Rattle.log_model.specs.declared.entry.Owner.{Owner}
use Rattle.source_vm.specs.declared.live.LiveSnap.{LiveSnap}
use Rattle.source_vm.specs.Live.{owner_in, without, AreAscending, IsLeastIn}

abbrev owner : LiveSnap → Owner
owner x = x.owner

abbrev pub snap : ℕ → Owner → LiveSnap
snap s by = record { id = s; owner = by }

-- a list begins with a snapshot of this number, or with another
owner_in-head : (s : ℕ) (x : LiveSnap) (xs : List LiveSnap) → x.id ≡ s
    → owner_in s (x ∷ xs) ≡ Some x.owner
owner_in-head s x xs same =
    ap (λ b. option_map owner (cond b (Some x) (find (λ y. eqb y.id s) xs))) (eq-eqb x.id s same)

owner_in-tail : (s : ℕ) (x : LiveSnap) (xs : List LiveSnap) → x.id ≢ s
    → owner_in s (x ∷ xs) ≡ owner_in s xs
owner_in-tail s x xs other =
    ap (λ b. option_map owner (cond b (Some x) (find (λ y. eqb y.id s) xs))) (ne_eqb x.id s other)

-- ---- places and numbers

tail_ascends : (x : LiveSnap) (xs : List LiveSnap) → AreAscending (x ∷ xs) → AreAscending xs
tail_ascends x xs are i j d less inside =
    are (suc i) (suc j) d (omega (arith, less)) (omega (arith, inside))

-- a later place has a higher number
id_below : (xs : List LiveSnap) (i j : ℕ) (x y : LiveSnap) → AreAscending xs
    → slice_get xs i ≡ Some x → slice_get xs j ≡ Some y → i < j → x.id < y.id
id_below xs i j x y are at_i at_j less =
    let inside : j < length xs = slice_get_within xs j y at_j in
    let h = are i j x less inside in
    omega (
      arith,
      h,
      ap (λ (z : LiveSnap). z.id) (get_or_from_slice_get xs i x x at_i),
      ap
          (λ (z : LiveSnap). z.id) (get_or_from_slice_get xs j y x at_j),
    )

ids_rise : (xs : List LiveSnap) (i j : ℕ) (x y : LiveSnap) → AreAscending xs
    → slice_get xs i ≡ Some x → slice_get xs j ≡ Some y → i ≤ j → x.id ≤ y.id
ids_rise xs i j x y are at_i at_j le = by (cases_eq i j)
  where
    by : (i ≡ j) ⊎ (i ≢ j) → x.id ≤ y.id
    by (inl same) =
        let one : ◌≡◌ {A = Option LiveSnap} (Some x) (Some y) =
        sym at_i ∙ ap (slice_get xs) same ∙ at_j in
        omega (arith, ap (λ (z : LiveSnap). z.id) (same_Some x y one))
    by (inr other) = omega (arith, id_below xs i j x y are at_i at_j (omega (arith, le, other)))

pub are_rising : (xs : List LiveSnap) → AreAscending xs → IsNonDecreasingBy (λ x. x.id) xs
are_rising xs are i j d le less =
    let inside : i < length xs = omega (arith, le, less) in
    ids_rise xs i j (get_or xs i d) (get_or xs j d) are (slice_get-get_or xs i d inside)
    (slice_get-get_or xs j d less) le

-- ---- who owns what

-- the snapshot at a place has its owner
pub owner_in-at : (xs : List LiveSnap) (k : ℕ) (x : LiveSnap) → AreAscending xs
    → slice_get xs k ≡ Some x → owner_in x.id xs ≡ Some x.owner
owner_in-at [] k x are at = absurd (none-some x at)
owner_in-at (y ∷ xs) zero x are at =
    owner_in-head x.id y xs (ap (λ (z : LiveSnap). z.id) (same_Some y x at))
    ∙ ap (λ (z : LiveSnap). Some z.owner) (same_Some y x at)
owner_in-at (y ∷ xs) (suc k) x are at =
    let lower = id_below (y ∷ xs) 0 (suc k) y x are refl at (omega arith) in
    owner_in-tail x.id y xs (λ same. absurd (omega (arith, lower, same)))
    ∙ owner_in-at xs k x (tail_ascends y xs are) at

-- and one that has an owner stands at a place
place_of_owned : (s : ℕ) (by : Owner) (xs : List LiveSnap) → owner_in s xs ≡ Some by
    → (k : ℕ) × (slice_get xs k ≡ Some (snap s by))
place_of_owned s by [] h = absurd (none-some by h)
place_of_owned s by (x ∷ xs) h = at (eqb x.id s) refl (λ rest. place_of_owned s by xs rest)
  where
    at : (b : Bool) → eqb x.id s ≡ b
        → (owner_in s xs ≡ Some by → (k : ℕ) × (slice_get xs k ≡ Some (snap s by)))
        → (k : ℕ) × (slice_get (x ∷ xs) k ≡ Some (snap s by))
    at true is later =
        let same : x.id ≡ s = eqb-true x.id s is in
        let owned : x.owner ≡ by = same_Some x.owner by (sym (owner_in-head s x xs same) ∙ h) in
        (0, (λ i. Some (snap (same i) (owned i))))
    at false is later =
        let rest = later (sym (owner_in-tail s x xs (eqb-false x.id s is)) ∙ h) in
        (suc rest.0, rest.1)

-- ---- from a number on

abbrev pub Point : ℕ → List LiveSnap → ℕ → Type 0
Point s xs place = IsPartitionPoint (λ x. ltb x.id s ≡ true) (λ x. ltb x.id s ≡ false) xs place

-- what isn't lower stands from the place on
stands_behind : (s : ℕ) (xs : List LiveSnap) (place k : ℕ) (x : LiveSnap) → Point s xs place
    → slice_get xs k ≡ Some x → s ≤ x.id → place ≤ k
stands_behind s xs place k x point at le = by (cases_lt k place)
  where
    by : (k < place) ⊎ (place ≤ k) → place ≤ k
    by (inl less) =
        let low : x.id < s = ltb-true x.id s
        (ap (λ (y : LiveSnap). ltb y.id s) (sym (get_or_from_slice_get xs k x x at))
        ∙ point.0 k x (omega arith) less) in
        absurd (omega (arith, low))
    by (inr behind) = behind

-- and what stands there isn't lower
is_no_lower : (s : ℕ) (xs : List LiveSnap) (place k : ℕ) (x : LiveSnap) → Point s xs place
    → slice_get xs k ≡ Some x → place ≤ k → s ≤ x.id
is_no_lower s xs place k x point at le =
    let inside : k < length xs = slice_get_within xs k x at in
    ltb-false x.id s (ap (λ (y : LiveSnap). ltb y.id s) (sym (get_or_from_slice_get xs k x x at))
    ∙ point.1 k x le inside)

-- where another number stands at the place, or none, the snapshot isn't live
pub none_of_id : (s : ℕ) (xs : List LiveSnap) (place : ℕ) → AreAscending xs → Point s xs place
    → ((y : LiveSnap) → slice_get xs place ≡ Some y → y.id ≢ s) → owner_in s xs ≡ None
none_of_id s xs place are point other = by (owner_in s xs) refl
  where
    by : (o : Option Owner) → owner_in s xs ≡ o → owner_in s xs ≡ None
    by None is = is
    by (Some o) is =
        let found = place_of_owned s o xs is in
        let k : ℕ = found.0 in
        let behind : place ≤ k =
        stands_behind s xs place k (snap s o) point found.1 (omega arith) in
        let inside : k < length xs = slice_get_within xs k (snap s o) found.1 in
        let y : LiveSnap = get_or xs place (snap s o) in
        let here : slice_get xs place ≡ Some y =
        slice_get-get_or xs place (snap s o) (omega arith) in
        let high : s ≤ y.id = is_no_lower s xs place place y point here (omega arith) in
        let low : y.id ≤ s = ids_rise xs place k y (snap s o) are here found.1 behind in
        absurd (other y here (omega (arith, high, low)))

-- ---- the least of an owner

-- none of the first places from this one on has the owner
abbrev pub NoneOf : Owner → List LiveSnap → ℕ → Type 0
NoneOf by later upto = (k : ℕ) (x : LiveSnap) → k < upto → slice_get later k ≡ Some x → x.owner ≢ by

-- one that has the owner, at a place behind which no place has it
past_places : (by : Owner) (from place upto s : ℕ) (xs : List LiveSnap) → Point from xs place
    → NoneOf by (drop place xs) upto → from ≤ s → owner_in s xs ≡ Some by
    → (k : ℕ) × (slice_get xs k ≡ Some (snap s by)) × (place + upto ≤ k)
past_places by from place upto s xs point none le owns =
    let found = place_of_owned s by xs owns in
    let k : ℕ = found.0 in
    let behind : place ≤ k = stands_behind from xs place k (snap s by) point found.1 le in
    (k, found.1, far k behind found.1 (cases_lt k (place + upto)))
  where
    far : (k : ℕ) → place ≤ k → slice_get xs k ≡ Some (snap s by)
        → (k < place + upto) ⊎ (place + upto ≤ k) → place + upto ≤ k
    far k behind at (inr past) = past
    far k behind at (inl less) =
        let here : slice_get (drop place xs) (k - place) ≡ Some (snap s by) =
        slice_get-drop xs place (k - place) ∙ ap (slice_get xs) (omega arith) ∙ at in
        absurd (none (k - place) (snap s by) (omega arith) here refl)

pub none_owned : (by : Owner) (from place : ℕ) (xs : List LiveSnap) → Point from xs place
    → NoneOf by (drop place xs) (length (drop place xs)) → IsLeastIn by from xs None
none_owned by from place xs point none s le owns =
    let found = past_places by from place (length (drop place xs)) s xs point none le owns in
    let inside = slice_get_within xs found.0 (snap s by) found.1 in
    absurd (omega (arith, inside, found.2, length-drop place xs))

pub least_owned : (by : Owner) (from place i : ℕ) (xs : List LiveSnap) (x : LiveSnap)
    → AreAscending xs → Point from xs place → NoneOf by (drop place xs) i
    → slice_get (drop place xs) i ≡ Some x → x.owner ≡ by → IsLeastIn by from xs (Some x.id)
least_owned by from place i xs x are point none at has =
    let here : slice_get xs (place + i) ≡ Some x = sym (slice_get-drop xs place i) ∙ at in (
      owner_in-at xs (place + i) x are here ∙ ap Some has,
      is_no_lower from xs place (place + i) x point here (omega arith),
      λ earlier le less owns.
          let found = past_places by from place i earlier xs point none le owns in
          let up = ids_rise xs (place + i) found.0 x (snap earlier by) are here found.1 found.2 in
          absurd (omega (arith, up, less)),
    )

-- ---- one more and one less

pub ascends-push : (xs : List LiveSnap) (x : LiveSnap) → AreAscending xs → All (λ y. y.id < x.id) xs
    → AreAscending (xs ++ x ∷ [])
ascends-push xs x are below = all_pairs_push (λ y z. y.id < z.id) xs x are below

-- the owner of a snapshot where a higher one is taken
pub owner_in-push : (s : ℕ) (xs : List LiveSnap) (x : LiveSnap) → All (λ y. y.id < x.id) xs
    → owner_in s (xs ++ x ∷ []) ≡ cond (eqb x.id s) (Some x.owner) (owner_in s xs)
owner_in-push s [] x below = by (eqb x.id s)
  where
    by : (b : Bool) → option_map owner (cond b (Some x) None) ≡ cond b (Some x.owner) None
    by true = refl
    by false = refl
owner_in-push s (y ∷ xs) x below =
    by (eqb y.id s) refl (owner_in-push s xs x (All-tail (λ z. z.id < x.id) y xs below))
    (All-head (λ z. z.id < x.id) y xs below)
  where
    by : (b : Bool) → eqb y.id s ≡ b
        → owner_in s (xs ++ x ∷ []) ≡ cond (eqb x.id s) (Some x.owner) (owner_in s xs) → y.id < x.id
        → owner_in s ((y ∷ xs) ++ x ∷ []) ≡ cond (eqb x.id s) (Some x.owner) (owner_in s (y ∷ xs))
    by true same rest less =
        let here : y.id ≡ s = eqb-true y.id s same in
        owner_in-head s y (xs ++ x ∷ []) here
        ∙ sym (ap (λ b. cond b (Some x.owner) (owner_in s (y ∷ xs)))
        (ne_eqb x.id s (λ e. absurd (omega (arith, e, here, less))))
        ∙ owner_in-head s y xs here)
    by false other rest less =
        let there = eqb-false y.id s other in
        owner_in-tail s y (xs ++ x ∷ []) there ∙ rest
        ∙ ap (λ o. cond (eqb x.id s) (Some x.owner) o) (sym (owner_in-tail s y xs there))

-- and where one is removed
pub owner_in-without : (s id : ℕ) (xs : List LiveSnap)
    → owner_in s (without id xs) ≡ cond (eqb id s) None (owner_in s xs)
owner_in-without s id [] = by (eqb id s)
  where
    by : (b : Bool) → ◌≡◌ {A = Option Owner} None (cond b None None)
    by true = refl
    by false = refl
owner_in-without s id (x ∷ xs) = by (eqb x.id id) refl (eqb x.id s) refl (owner_in-without s id xs)
  where
    by : (b : Bool) → eqb x.id id ≡ b → (c : Bool) → eqb x.id s ≡ c
        → owner_in s (without id xs) ≡ cond (eqb id s) None (owner_in s xs)
        → owner_in s (cond (not b) (x ∷ without id xs) (without id xs))
        ≡ cond (eqb id s) None (owner_in s (x ∷ xs))
    by true gone true here later =
        let same : id ≡ s = sym (eqb-true x.id id gone) ∙ eqb-true x.id s here in
        later ∙ ap (λ b. cond b None (owner_in s xs)) (eq-eqb id s same)
        ∙ sym (ap (λ b. cond b None (owner_in s (x ∷ xs))) (eq-eqb id s same))
    by true gone false there later =
        later ∙ ap (λ o. cond (eqb id s) None o)
        (sym (owner_in-tail s x xs (eqb-false x.id s there)))
    by false kept true here later =
        let same : x.id ≡ s = eqb-true x.id s here in
        owner_in-head s x (without id xs) same
        ∙ sym (ap (λ b. cond b None (owner_in s (x ∷ xs)))
        (ne_eqb id s (λ e. eqb-false x.id id kept (same ∙ sym e))) ∙ owner_in-head s x xs same)
    by false kept false there later =
        owner_in-tail s x (without id xs) (eqb-false x.id s there) ∙ later
        ∙ ap (λ o. cond (eqb id s) None o) (sym (owner_in-tail s x xs (eqb-false x.id s there)))

-- without one that isn't live all are left
pub without-none : (id : ℕ) (xs : List LiveSnap) → owner_in id xs ≡ None → without id xs ≡ xs
without-none id [] none = refl
without-none id (x ∷ xs) none = by (eqb x.id id) refl (λ rest. without-none id xs rest)
  where
    by : (b : Bool) → eqb x.id id ≡ b → (owner_in id xs ≡ None → without id xs ≡ xs)
        → cond (not b) (x ∷ without id xs) (without id xs) ≡ x ∷ xs
    by true same later = absurd
        (none-some x.owner (sym none ∙ owner_in-head id x xs (eqb-true x.id id same)))
    by false other later =
        ap (λ (ys : List LiveSnap). x ∷ ys)
        (later (sym (owner_in-tail id x xs (eqb-false x.id id other)) ∙ none))

-- those behind a place have other numbers
kept_behind : (id : ℕ) (xs : List LiveSnap)
    → ((k : ℕ) (x : LiveSnap) → slice_get xs k ≡ Some x → x.id ≢ id) → without id xs ≡ xs
kept_behind id [] others = refl
kept_behind id (x ∷ xs) others =
    ap (λ b. cond (not b) (x ∷ without id xs) (without id xs)) (ne_eqb x.id id (others 0 x refl))
    ∙ ap (λ (ys : List LiveSnap). x ∷ ys) (kept_behind id xs (λ k y at. others (suc k) y at))

-- without the one at a place, what stands before it and behind it is left
pub without-at : (xs : List LiveSnap) (place : ℕ) (x : LiveSnap) → AreAscending xs
    → slice_get xs place ≡ Some x → remove xs place ≡ without x.id xs
without-at [] place x are at = absurd (none-some x at)
without-at (y ∷ xs) zero x are at =
    let same : y.id ≡ x.id = ap (λ (z : LiveSnap). z.id) (same_Some y x at) in
    sym (ap (λ b. cond (not b) (y ∷ without x.id xs) (without x.id xs)) (eq-eqb y.id x.id same)
    ∙ kept_behind x.id xs
    (λ k z there e. absurd
    (omega (arith, e, same, id_below (y ∷ xs) 0 (suc k) y z are refl there (omega arith)))))
without-at (y ∷ xs) (suc k) x are at =
    let lower = id_below (y ∷ xs) 0 (suc k) y x are refl at (omega arith) in
    ap (λ (ys : List LiveSnap). y ∷ ys) (without-at xs k x (tail_ascends y xs are) at)
    ∙ sym (ap (λ b. cond (not b) (y ∷ without x.id xs) (without x.id xs))
    (ne_eqb y.id x.id (λ e. absurd (omega (arith, e, lower)))))
