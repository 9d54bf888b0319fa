-- Lists of pairs of a key and a value: what is found after a pair was put in or taken out, what
-- maps
-- of the values leave, and that their order stays.
use Rattle.std.proofs.Common.{◌≡◌, Bool, true, false, not, cond, List, [], ◌∷◌, map, Option, Some, None, option_map, option_and_then, Ordering, Less, Equal, Greater, is_eq, ap, sym, ◌∙◌, subst, refl}
use Rattle.std.proofs.lemmas.Cmp.{tied_itself, alike_right}
use Rattle.std.proofs.lemmas.List.Kept.{IsStrictlySortedBy-filter}
use Rattle.std.proofs.lemmas.Map.Lookups.{CmpEqualImpliesEq}
use Rattle.std.specs.BTreeMap.{is_at, insert_entry}
use Rattle.std.specs.Cmp.{IsTotalOrder}
use Rattle.std.specs.List.{filter, filter_map, cons_option, AllByRecursion}
use Rattle.std.specs.List.Sorted.{IsStrictlySortedBy}
use Rattle.std.specs.Map.{keys_of, lookup}
use Rattle.std.specs.Ordering.{match_ordering, ordering_reverse}

-- a key is at itself
pub at_self : {K : Type 0} {R : K → K → Ordering} → IsTotalOrder R → (k : K) → is_at (R k) k ≡ true
at_self o k = ap is_eq (tied_itself o k)

-- the pairs of other keys
abbrev pub without : {K X : Type 0} → (R : K → K → Ordering) → (k : K) → List (K × X) → List (K × X)
without R k es = filter (λ e. not (is_at (R k) e.0)) es

module _ {K X : Type 0} {R : K → K → Ordering} (o : IsTotalOrder R) where
  -- ---- what is found

  same_step : (k : K) (x : X) (e : K × X) (es : List (K × X)) (r : Ordering) → R k e.0 ≡ r
      → lookup (is_at (R k)) (insert_entry R es k x) ≡ Some x
      → lookup (is_at (R k))
      (match_ordering r ((k, x) ∷ e ∷ es) ((e.0, x) ∷ es) (e ∷ insert_entry R es k x))
      ≡ Some x
  same_step k x e es Less h rest =
      ap (λ b. cond b (Some x) (lookup (is_at (R k)) (e ∷ es))) (at_self o k)
  same_step k x e es Equal h rest = ap (λ b. cond (is_eq b) (Some x) (lookup (is_at (R k)) es)) h
  same_step k x e es Greater h rest =
      ap (λ b. cond (is_eq b) (Some e.1) (lookup (is_at (R k)) (insert_entry R es k x))) h ∙ rest

  pub lookup-insert_entry_same : (k : K) (x : X) (es : List (K × X))
      → lookup (is_at (R k)) (insert_entry R es k x) ≡ Some x
  lookup-insert_entry_same k x [] = ap (λ b. cond b (Some x) None) (at_self o k)
  lookup-insert_entry_same k x (e ∷ es) =
      same_step k x e es (R k e.0) refl (lookup-insert_entry_same k x es)

  other_step : (k q : K) (x : X) (e : K × X) (es : List (K × X)) (r : Ordering) → R k e.0 ≡ r
      → is_at (R q) k ≡ false
      → lookup (is_at (R q)) (insert_entry R es k x) ≡ lookup (is_at (R q)) es
      → lookup (is_at (R q))
      (match_ordering r ((k, x) ∷ e ∷ es) ((e.0, x) ∷ es) (e ∷ insert_entry R es k x))
      ≡ lookup (is_at (R q)) (e ∷ es)
  other_step k q x e es Less h apart rest =
      ap (λ b. cond b (Some x) (lookup (is_at (R q)) (e ∷ es))) apart
  other_step k q x e es Equal h apart rest =
      let past : is_at (R q) e.0 ≡ false = ap is_eq (sym (alike_right o k e.0 q h)) ∙ apart in
      ap (λ b. cond b (Some x) (lookup (is_at (R q)) es)) past
      ∙ sym (ap (λ b. cond b (Some e.1) (lookup (is_at (R q)) es)) past)
  other_step k q x e es Greater h apart rest = ap (λ l. cond (is_at (R q) e.0) (Some e.1) l) rest

  pub lookup-insert_entry_other : (k q : K) (x : X) (es : List (K × X)) → is_at (R q) k ≡ false
      → lookup (is_at (R q)) (insert_entry R es k x) ≡ lookup (is_at (R q)) es
  lookup-insert_entry_other k q x [] apart = ap (λ b. cond b (Some x) None) apart
  lookup-insert_entry_other k q x (e ∷ es) apart =
      other_step k q x e es (R k e.0) refl apart (lookup-insert_entry_other k q x es apart)

  -- the second of two values under one key is the one that stands
  again_step : (k : K) (x y : X) (e : K × X) (es : List (K × X)) (r : Ordering) → R k e.0 ≡ r
      → insert_entry R (insert_entry R es k x) k y ≡ insert_entry R es k y
      → insert_entry R (match_ordering r ((k, x) ∷ e ∷ es) ((e.0, x) ∷ es)
      (e ∷ insert_entry R es k x)) k y
      ≡ match_ordering r ((k, y) ∷ e ∷ es) ((e.0, y) ∷ es) (e ∷ insert_entry R es k y)
  again_step k x y e es Less h rest =
      ap (λ c. match_ordering c ((k, y) ∷ (k, x) ∷ e ∷ es) ((k, y) ∷ e ∷ es)
      ((k, x) ∷ insert_entry R (e ∷ es) k y)) (tied_itself o k)
  again_step k x y e es Equal h rest =
      ap (λ c. match_ordering c ((k, y) ∷ (e.0, x) ∷ es) ((e.0, y) ∷ es)
      ((e.0, x) ∷ insert_entry R es k y)) h
  again_step k x y e es Greater h rest =
      ap (λ c. match_ordering c ((k, y) ∷ e ∷ insert_entry R es k x)
      ((e.0, y) ∷ insert_entry R es k x)
      (e ∷ insert_entry R (insert_entry R es k x) k y)) h
      ∙ ap (λ l. e ∷ l) rest

  pub insert_entry-insert_entry : (k : K) (x y : X) (es : List (K × X))
      → insert_entry R (insert_entry R es k x) k y ≡ insert_entry R es k y
  insert_entry-insert_entry k x y [] =
      ap (λ c. match_ordering c ((k, y) ∷ (k, x) ∷ []) ((k, y) ∷ []) ((k, x) ∷ (k, y) ∷ []))
      (tied_itself o k)
  insert_entry-insert_entry k x y (e ∷ es) =
      again_step k x y e es (R k e.0) refl (insert_entry-insert_entry k x y es)

  -- ---- without a key

  gone_step : (k : K) (e : K × X) (rest : List (K × X)) (b : Bool) → is_at (R k) e.0 ≡ b
      → lookup (is_at (R k)) rest ≡ None
      → lookup (is_at (R k)) (cond (not b) (e ∷ rest) rest) ≡ None
  gone_step k e rest true h gone = gone
  gone_step k e rest false h gone =
      ap (λ b. cond b (Some e.1) (lookup (is_at (R k)) rest)) h ∙ gone

  pub lookup-without_same : (k : K) (es : List (K × X))
      → lookup (is_at (R k)) (without R k es) ≡ None
  lookup-without_same k [] = refl
  lookup-without_same k (e ∷ es) =
      gone_step k e (without R k es) (is_at (R k) e.0) refl (lookup-without_same k es)

  stays_step : (k q : K) (e : K × X) (es rest : List (K × X)) (r : Ordering) → R k e.0 ≡ r
      → is_at (R q) k ≡ false
      → lookup (is_at (R q)) rest ≡ lookup (is_at (R q)) es
      → lookup (is_at (R q)) (cond (not (is_eq r)) (e ∷ rest) rest) ≡ lookup (is_at (R q)) (e ∷ es)
  stays_step k q e es rest Less h apart same = ap (λ l. cond (is_at (R q) e.0) (Some e.1) l) same
  stays_step k q e es rest Equal h apart same =
      let past : is_at (R q) e.0 ≡ false = ap is_eq (sym (alike_right o k e.0 q h)) ∙ apart in
      same ∙ sym (ap (λ b. cond b (Some e.1) (lookup (is_at (R q)) es)) past)
  stays_step k q e es rest Greater h apart same = ap (λ l. cond (is_at (R q) e.0) (Some e.1) l) same

  pub lookup-without_other : (k q : K) (es : List (K × X)) → is_at (R q) k ≡ false
      → lookup (is_at (R q)) (without R k es) ≡ lookup (is_at (R q)) es
  lookup-without_other k q [] apart = refl
  lookup-without_other k q (e ∷ es) apart =
      stays_step k q e es (without R k es) (R k e.0) refl apart (lookup-without_other k q es apart)

  missing_step : (k : K) (e : K × X) (es : List (K × X)) (b : Bool) → is_at (R k) e.0 ≡ b
      → cond b (Some e.1) (lookup (is_at (R k)) es) ≡ None
      → (lookup (is_at (R k)) es ≡ None → without R k es ≡ es)
      → cond (not b) (e ∷ without R k es) (without R k es) ≡ e ∷ es
  missing_step k e es true h found rest = cc
  missing_step k e es false h found rest = ap (λ l. e ∷ l) (rest found)

  -- where a key is missing, nothing is taken out
  pub without_missing : (k : K) (es : List (K × X)) → lookup (is_at (R k)) es ≡ None
      → without R k es ≡ es
  without_missing k [] none = refl
  without_missing k (e ∷ es) none =
      missing_step k e es (is_at (R k) e.0) refl none (without_missing k es)

  missing_with : (k : K) (x : X) (e : K × X) (es : List (K × X)) (r : Ordering) → R k e.0 ≡ r
      → lookup (is_at (R k)) (e ∷ es) ≡ None
      → (lookup (is_at (R k)) es ≡ None → without R k (insert_entry R es k x) ≡ es)
      → without R k (match_ordering r ((k, x) ∷ e ∷ es) ((e.0, x) ∷ es) (e ∷ insert_entry R es k x))
      ≡ e ∷ es
  missing_with k x e es Less h none rest =
      ap (λ b. cond (not b) ((k, x) ∷ without R k (e ∷ es)) (without R k (e ∷ es))) (at_self o k)
      ∙ without_missing k (e ∷ es) none
  missing_with k x e es Equal h none rest =
      let found : cond (is_eq Equal) (Some e.1) (lookup (is_at (R k)) es) ≡ None =
      ap (λ b. cond (is_eq b) (Some e.1) (lookup (is_at (R k)) es)) (sym h) ∙ none in
      cc
  missing_with k x e es Greater h none rest =
      let past : lookup (is_at (R k)) es ≡ None =
      ap (λ b. cond (is_eq b) (Some e.1) (lookup (is_at (R k)) es)) (sym h) ∙ none in
      ap (λ b. cond (not (is_eq b)) (e ∷ without R k (insert_entry R es k x))
      (without R k (insert_entry R es k x))) h
      ∙ ap (λ l. e ∷ l) (rest past)

  -- what was put in under a key that was missing, and then taken out, leaves the list
  pub without-insert_entry : (k : K) (x : X) (es : List (K × X)) → lookup (is_at (R k)) es ≡ None
      → without R k (insert_entry R es k x) ≡ es
  without-insert_entry k x [] none =
      ap (λ b. cond (not b) ((k, x) ∷ []) []) (at_self o k)
  without-insert_entry k x (e ∷ es) none =
      missing_with k x e es (R k e.0) refl none (without-insert_entry k x es)

-- ---- values that are mapped

abbrev pub map_values : {K X Y : Type 0} → (X → Y) → List (K × X) → List (K × Y)
map_values f es = map (λ e. (e.0, f e.1)) es

module _ {K X Y : Type 0} (R : K → K → Ordering) (f : X → Y) where
  mapped_step : (k : K) (x : X) (e : K × X) (es : List (K × X)) (r : Ordering)
      → map_values f (insert_entry R es k x) ≡ insert_entry R (map_values f es) k (f x)
      → map_values f (match_ordering r ((k, x) ∷ e ∷ es) ((e.0, x) ∷ es)
      (e ∷ insert_entry R es k x))
      ≡ match_ordering r ((k, f x) ∷ (e.0, f e.1) ∷ map_values f es) ((e.0, f x) ∷ map_values f es)
      ((e.0, f e.1) ∷ insert_entry R (map_values f es) k (f x))
  mapped_step k x e es Less rest = refl
  mapped_step k x e es Equal rest = refl
  mapped_step k x e es Greater rest = ap (λ l. (e.0, f e.1) ∷ l) rest

  pub map_values-insert_entry : (k : K) (x : X) (es : List (K × X))
      → map_values f (insert_entry R es k x) ≡ insert_entry R (map_values f es) k (f x)
  map_values-insert_entry k x [] = refl
  map_values-insert_entry k x (e ∷ es) =
      mapped_step k x e es (R k e.0) (map_values-insert_entry k x es)

module _ {K X Y : Type 0} (f : X → Y) where
  lookup_step : (t : K → Bool) (e : K × X) (es : List (K × X)) (b : Bool)
      → lookup t (map_values f es) ≡ option_map f (lookup t es)
      → cond b (Some (f e.1)) (lookup t (map_values f es))
      ≡ option_map f (cond b (Some e.1) (lookup t es))
  lookup_step t e es true rest = refl
  lookup_step t e es false rest = rest

  pub lookup-map_values : (t : K → Bool) (es : List (K × X))
      → lookup t (map_values f es) ≡ option_map f (lookup t es)
  lookup-map_values t [] = refl
  lookup-map_values t (e ∷ es) = lookup_step t e es (t e.0) (lookup-map_values t es)

  pub keys-map_values : (es : List (K × X)) → keys_of (map_values f es) ≡ keys_of es
  keys-map_values [] = refl
  keys-map_values (e ∷ es) = ap (λ l. e.0 ∷ l) (keys-map_values es)

-- ---- a key and a list in order

module _ {K V : Type 0} {R : K → K → Ordering} (o : IsTotalOrder R) where
  -- a key that is below all stands in front
  pub insert_below : (k : K) (v : V) (es : List (K × V))
      → AllByRecursion (λ y. R k y ≡ Less) (keys_of es) → insert_entry R es k v ≡ (k, v) ∷ es
  insert_below k v [] below = refl
  insert_below k v (e ∷ es) below =
      ap (λ c. match_ordering c ((k, v) ∷ e ∷ es) ((e.0, v) ∷ es) (e ∷ insert_entry R es k v))
      below.0

  -- and isn't among them
  pub missing_below : (k : K) (es : List (K × V))
      → AllByRecursion (λ y. R k y ≡ Less) (keys_of es) → lookup (is_at (R k)) es ≡ None
  missing_below k [] below = refl
  missing_below k (e ∷ es) below =
      ap (λ c. cond (is_eq c) (Some e.1) (lookup (is_at (R k)) es)) below.0
      ∙ missing_below k es below.1

  -- what is below the first of a list in order is below all of it
  pub below_all : (k : K) (e : K × V) (es : List (K × V)) → R k e.0 ≡ Less
      → AllByRecursion (λ y. R e.0 y ≡ Less) (keys_of es)
      → AllByRecursion (λ y. R k y ≡ Less) (keys_of es)
  below_all k e [] h below = tt
  below_all k e (f ∷ es) h below =
      (o.trans k e.0 f.0 h below.0, below_all k e es h below.1)

  -- what is level with the first of a list in order is below the others
  pub like_all : (k : K) (e : K × V) (es : List (K × V)) → R k e.0 ≡ Equal
      → AllByRecursion (λ y. R e.0 y ≡ Less) (keys_of es)
      → AllByRecursion (λ y. R k y ≡ Less) (keys_of es)
  like_all k e [] h below = tt
  like_all k e (f ∷ es) h below = (o.congr k e.0 f.0 h ∙ below.0, like_all k e es h below.1)

module _ {K V : Type 0} {R : K → K → Ordering} (o : IsTotalOrder R) where
  -- a key that is above the first of a list in order, put in, is below none of those below it
  above_step : (j k : K) (v : V) (e : K × V) (es : List (K × V)) (r : Ordering) → R j k ≡ Less
      → AllByRecursion (λ y. R j y ≡ Less) (keys_of (e ∷ es))
      → AllByRecursion (λ y. R j y ≡ Less) (keys_of (insert_entry R es k v))
      → AllByRecursion (λ y. R j y ≡ Less)
      (keys_of (match_ordering r ((k, v) ∷ e ∷ es) ((e.0, v) ∷ es) (e ∷ insert_entry R es k v)))
  above_step j k v e es Less h below rest = (h, below)
  above_step j k v e es Equal h below rest = below
  above_step j k v e es Greater h below rest = (below.0, rest)

  all_above : (j k : K) (v : V) (es : List (K × V)) → R j k ≡ Less
      → AllByRecursion (λ y. R j y ≡ Less) (keys_of es)
      → AllByRecursion (λ y. R j y ≡ Less) (keys_of (insert_entry R es k v))
  all_above j k v [] h below = (h, tt)
  all_above j k v (e ∷ es) h below =
      above_step j k v e es (R k e.0) h below (all_above j k v es h below.1)

  order_step : (k : K) (v : V) (e : K × V) (es : List (K × V)) (r : Ordering) → R k e.0 ≡ r
      → IsStrictlySortedBy R (keys_of (e ∷ es))
      → IsStrictlySortedBy R (keys_of (insert_entry R es k v))
      → IsStrictlySortedBy R
      (keys_of (match_ordering r ((k, v) ∷ e ∷ es) ((e.0, v) ∷ es) (e ∷ insert_entry R es k v)))
  unfolding IsStrictlySortedBy
  order_step k v e es Less h sorted rest = ((h, below_all o k e es h sorted.0), sorted)
  order_step k v e es Equal h sorted rest = sorted
  order_step k v e es Greater h sorted rest =
      let back : R e.0 k ≡ Less = o.antisymm e.0 k ∙ ap ordering_reverse h in
      (all_above e.0 k v es back sorted.0, rest)

  pub sorted-insert_entry : (k : K) (v : V) (es : List (K × V)) → IsStrictlySortedBy R (keys_of es)
      → IsStrictlySortedBy R (keys_of (insert_entry R es k v))
  unfolding IsStrictlySortedBy
  sorted-insert_entry k v [] sorted = (tt, tt)
  sorted-insert_entry k v (e ∷ es) sorted =
      order_step k v e es (R k e.0) refl sorted (sorted-insert_entry k v es sorted.1)

module _ {K V : Type 0} (R : K → K → Ordering) where
  keys_step : (k : K) (e : K × V) (es : List (K × V)) (b : Bool)
      → keys_of (without R k es) ≡ filter (λ q. not (is_at (R k) q)) (keys_of es)
      → keys_of (cond b (e ∷ without R k es) (without R k es))
      ≡ cond b (e.0 ∷ filter (λ q. not (is_at (R k) q)) (keys_of es))
      (filter (λ q. not (is_at (R k) q)) (keys_of es))
  keys_step k e es true rest = ap (λ l. e.0 ∷ l) rest
  keys_step k e es false rest = rest

  keys-without : (k : K) (es : List (K × V))
      → keys_of (without R k es) ≡ filter (λ q. not (is_at (R k) q)) (keys_of es)
  keys-without k [] = refl
  keys-without k (e ∷ es) = keys_step k e es (not (is_at (R k) e.0)) (keys-without k es)

  pub sorted-without : (k : K) (es : List (K × V)) → IsStrictlySortedBy R (keys_of es)
      → IsStrictlySortedBy R (keys_of (without R k es))
  sorted-without k es sorted =
      subst (λ ks. IsStrictlySortedBy R ks) (sym (keys-without k es))
      (IsStrictlySortedBy-filter R (λ q. not (is_at (R k) q)) (keys_of es) sorted)

module _ {K V : Type 0} {R : K → K → Ordering} (o : IsTotalOrder R) where
  found_in_place : (k : K) (v : V) (e : K × V) (es : List (K × V)) (r : Ordering) → R k e.0 ≡ r
      → AllByRecursion (λ y. R e.0 y ≡ Less) (keys_of es)
      → lookup (is_at (R k)) (e ∷ es) ≡ Some v
      → (lookup (is_at (R k)) es ≡ Some v → insert_entry R es k v ≡ es)
      → match_ordering r ((k, v) ∷ e ∷ es) ((e.0, v) ∷ es) (e ∷ insert_entry R es k v) ≡ e ∷ es
  found_in_place k v e es Less h below found rest =
      let none : lookup (is_at (R k)) (e ∷ es) ≡ None =
      ap (λ c. cond (is_eq c) (Some e.1) (lookup (is_at (R k)) es)) h
      ∙ missing_below o k es (below_all o k e es h below) in
      cc
  found_in_place k v e es Equal h below found rest =
      let same : Some e.1 ≡ Some v =
      sym (ap (λ c. cond (is_eq c) (Some e.1) (lookup (is_at (R k)) es)) h) ∙ found in
      let value : e.1 ≡ v = cc in
      ap (λ (x : V). (e.0, x) ∷ es) (sym value)
  found_in_place k v e es Greater h below found rest =
      ap (λ l. e ∷ l)
      (rest (sym (ap (λ c. cond (is_eq c) (Some e.1) (lookup (is_at (R k)) es)) h) ∙ found))

  -- what is there already, put in, leaves the list
  pub insert_entry-found : (k : K) (v : V) (es : List (K × V)) → IsStrictlySortedBy R (keys_of es)
      → lookup (is_at (R k)) es ≡ Some v → insert_entry R es k v ≡ es
  unfolding IsStrictlySortedBy
  insert_entry-found k v [] sorted found = cc
  insert_entry-found k v (e ∷ es) sorted found =
      found_in_place k v e es (R k e.0) refl sorted.0 found (insert_entry-found k v es sorted.1)

-- ---- those of the values that a function keeps

abbrev pub kept_value : {K X Y : Type 0} → (X → Option Y) → K × X → Option (K × Y)
kept_value g e = option_map (λ y. (e.0, y)) (g e.1)

abbrev pub kept_values : {K X Y : Type 0} → (X → Option Y) → List (K × X) → List (K × Y)
kept_values g es = filter_map (kept_value g) es

module _ {K X Y : Type 0} {R : K → K → Ordering} (o : IsTotalOrder R) (g : X → Option Y) where
  below_step : (k : K) (e : K × X) (kept : List (K × Y)) (v : Option Y) → R k e.0 ≡ Less
      → AllByRecursion (λ y. R k y ≡ Less) (keys_of kept)
      → AllByRecursion (λ y. R k y ≡ Less)
      (keys_of (cons_option (option_map (λ y. (e.0, y)) v) kept))
  below_step k e kept None h rest = rest
  below_step k e kept (Some y) h rest = (h, rest)

  -- a key that is below all of a list is below all that is kept of it
  below_kept : (k : K) (es : List (K × X)) → AllByRecursion (λ y. R k y ≡ Less) (keys_of es)
      → AllByRecursion (λ y. R k y ≡ Less) (keys_of (kept_values g es))
  below_kept k [] below = tt
  below_kept k (e ∷ es) below =
      below_step k e (kept_values g es) (g e.1) below.0 (below_kept k es below.1)

  sorted_step : (e : K × X) (kept : List (K × Y)) (v : Option Y)
      → AllByRecursion (λ y. R e.0 y ≡ Less) (keys_of kept)
      → IsStrictlySortedBy R (keys_of kept)
      → IsStrictlySortedBy R (keys_of (cons_option (option_map (λ y. (e.0, y)) v) kept))
  unfolding IsStrictlySortedBy
  sorted_step e kept None below sorted = sorted
  sorted_step e kept (Some y) below sorted = (below, sorted)

  pub sorted_kept : (es : List (K × X)) → IsStrictlySortedBy R (keys_of es)
      → IsStrictlySortedBy R (keys_of (kept_values g es))
  unfolding IsStrictlySortedBy
  sorted_kept [] sorted = tt
  sorted_kept (e ∷ es) sorted =
      sorted_step e (kept_values g es) (g e.1) (below_kept e.0 es sorted.0)
      (sorted_kept es sorted.1)

  -- ---- what a look-up finds of those that are kept

  found_step : (k : K) (e : K × X) (es : List (K × X)) (v : Option Y) (r : Ordering) → g e.1 ≡ v
      → R k e.0 ≡ r
      → AllByRecursion (λ y. R e.0 y ≡ Less) (keys_of es)
      → lookup (is_at (R k)) (kept_values g es) ≡ option_and_then g (lookup (is_at (R k)) es)
      → lookup (is_at (R k)) (cons_option (option_map (λ y. (e.0, y)) v) (kept_values g es))
      ≡ option_and_then g (cond (is_eq r) (Some e.1) (lookup (is_at (R k)) es))
  found_step k e es None Less kept h below rest = rest
  found_step k e es None Equal kept h below rest =
      let all : AllByRecursion (λ y. R k y ≡ Less) (keys_of es) = like_all o k e es h below in
      missing_below o k (kept_values g es) (below_kept k es all) ∙ sym kept
  found_step k e es None Greater kept h below rest = rest
  found_step k e es (Some y) Less kept h below rest =
      ap (λ c. cond (is_eq c) (Some y) (lookup (is_at (R k)) (kept_values g es))) h ∙ rest
  found_step k e es (Some y) Equal kept h below rest =
      ap (λ c. cond (is_eq c) (Some y) (lookup (is_at (R k)) (kept_values g es))) h ∙ sym kept
  found_step k e es (Some y) Greater kept h below rest =
      ap (λ c. cond (is_eq c) (Some y) (lookup (is_at (R k)) (kept_values g es))) h ∙ rest

  pub lookup_kept : (k : K) (es : List (K × X)) → IsStrictlySortedBy R (keys_of es)
      → lookup (is_at (R k)) (kept_values g es) ≡ option_and_then g (lookup (is_at (R k)) es)
  unfolding IsStrictlySortedBy
  lookup_kept k [] sorted = refl
  lookup_kept k (e ∷ es) sorted =
      found_step k e es (g e.1) (R k e.0) refl refl sorted.0 (lookup_kept k es sorted.1)

  -- ---- a value that is kept goes in

  goes_in : (exact : CmpEqualImpliesEq R) (k : K) (x : X) (y : Y) (e : K × X) (es : List (K × X))
      (v : Option Y) (r : Ordering) → g x ≡ Some y → g e.1 ≡ v → R k e.0 ≡ r
      → AllByRecursion (λ y. R e.0 y ≡ Less) (keys_of es)
      → kept_values g (insert_entry R es k x) ≡ insert_entry R (kept_values g es) k y
      → kept_values g (match_ordering r ((k, x) ∷ e ∷ es) ((e.0, x) ∷ es)
      (e ∷ insert_entry R es k x))
      ≡ insert_entry R (cons_option (option_map (λ y. (e.0, y)) v) (kept_values g es)) k y
  goes_in exact k x y e es None Less kept was h below rest =
      let all : AllByRecursion (λ y. R k y ≡ Less) (keys_of es) = below_all o k e es h below in
      ap (λ w. cons_option (option_map (λ z. (k, z)) w)
      (cons_option (option_map (λ z. (e.0, z)) (g e.1)) (kept_values g es))) kept
      ∙ ap (λ w. (k, y) ∷ cons_option (option_map (λ z. (e.0, z)) w) (kept_values g es)) was
      ∙ sym (insert_below o k y (kept_values g es) (below_kept k es all))
  goes_in exact k x y e es (Some z) Less kept was h below rest =
      ap (λ w. cons_option (option_map (λ z. (k, z)) w)
      (cons_option (option_map (λ z. (e.0, z)) (g e.1)) (kept_values g es))) kept
      ∙ ap (λ w. (k, y) ∷ cons_option (option_map (λ z. (e.0, z)) w) (kept_values g es)) was
      ∙ sym (ap (λ c. match_ordering c ((k, y) ∷ (e.0, z) ∷ kept_values g es)
      ((e.0, y) ∷ kept_values g es)
      ((e.0, z) ∷ insert_entry R (kept_values g es) k y)) h)
  goes_in exact k x y e es None Equal kept was h below rest =
      let all : AllByRecursion (λ y. R k y ≡ Less) (keys_of es) = like_all o k e es h below in
      ap (λ w. cons_option (option_map (λ z. (e.0, z)) w) (kept_values g es)) kept
      ∙ ap (λ q. (q, y) ∷ kept_values g es) (sym (exact k e.0 h))
      ∙ sym (insert_below o k y (kept_values g es) (below_kept k es all))
  goes_in exact k x y e es (Some z) Equal kept was h below rest =
      ap (λ w. cons_option (option_map (λ z. (e.0, z)) w) (kept_values g es)) kept
      ∙ sym (ap (λ c. match_ordering c ((k, y) ∷ (e.0, z) ∷ kept_values g es)
      ((e.0, y) ∷ kept_values g es)
      ((e.0, z) ∷ insert_entry R (kept_values g es) k y)) h)
  goes_in exact k x y e es None Greater kept was h below rest =
      ap (λ w. cons_option (option_map (λ z. (e.0, z)) w) (kept_values g (insert_entry R es k x)))
      was
      ∙ rest
  goes_in exact k x y e es (Some z) Greater kept was h below rest =
      ap (λ w. cons_option (option_map (λ z. (e.0, z)) w) (kept_values g (insert_entry R es k x)))
      was
      ∙ ap (λ l. (e.0, z) ∷ l) rest
      ∙ sym (ap (λ c. match_ordering c ((k, y) ∷ (e.0, z) ∷ kept_values g es)
      ((e.0, y) ∷ kept_values g es)
      ((e.0, z) ∷ insert_entry R (kept_values g es) k y)) h)

  pub kept-insert_entry : (exact : CmpEqualImpliesEq R) (k : K) (x : X) (y : Y) (es : List (K × X))
      → g x ≡ Some y → IsStrictlySortedBy R (keys_of es)
      → kept_values g (insert_entry R es k x) ≡ insert_entry R (kept_values g es) k y
  unfolding IsStrictlySortedBy
  kept-insert_entry exact k x y [] kept sorted =
      ap (λ w. cons_option (option_map (λ z. (k, z)) w) []) kept
  kept-insert_entry exact k x y (e ∷ es) kept sorted =
      goes_in exact k x y e es (g e.1) (R k e.0) kept refl refl sorted.0
      (kept-insert_entry exact k x y es kept sorted.1)

  -- ---- a value that isn't kept goes in

  goes_out : (k : K) (x : X) (e : K × X) (es : List (K × X)) (v : Option Y) (r : Ordering)
      → g x ≡ None → g e.1 ≡ v → R k e.0 ≡ r
      → AllByRecursion (λ y. R e.0 y ≡ Less) (keys_of es)
      → kept_values g (insert_entry R es k x) ≡ without R k (kept_values g es)
      → kept_values g (match_ordering r ((k, x) ∷ e ∷ es) ((e.0, x) ∷ es)
      (e ∷ insert_entry R es k x))
      ≡ without R k (cons_option (option_map (λ y. (e.0, y)) v) (kept_values g es))
  goes_out k x e es None Less lost was h below rest =
      let all : AllByRecursion (λ y. R k y ≡ Less) (keys_of es) = below_all o k e es h below in
      ap (λ w. cons_option (option_map (λ z. (k, z)) w)
      (cons_option (option_map (λ z. (e.0, z)) (g e.1)) (kept_values g es))) lost
      ∙ ap (λ w. cons_option (option_map (λ z. (e.0, z)) w) (kept_values g es)) was
      ∙ sym (without_missing o k (kept_values g es)
      (missing_below o k (kept_values g es) (below_kept k es all)))
  goes_out k x e es (Some z) Less lost was h below rest =
      let all : AllByRecursion (λ y. R k y ≡ Less) (keys_of es) = below_all o k e es h below in
      ap (λ w. cons_option (option_map (λ z. (k, z)) w)
      (cons_option (option_map (λ z. (e.0, z)) (g e.1)) (kept_values g es))) lost
      ∙ ap (λ w. cons_option (option_map (λ z. (e.0, z)) w) (kept_values g es)) was
      ∙ sym (ap (λ c. cond (not (is_eq c)) ((e.0, z) ∷ without R k (kept_values g es))
      (without R k (kept_values g es))) h
      ∙ ap (λ l. (e.0, z) ∷ l) (without_missing o k (kept_values g es)
      (missing_below o k (kept_values g es) (below_kept k es all))))
  goes_out k x e es None Equal lost was h below rest =
      let all : AllByRecursion (λ y. R k y ≡ Less) (keys_of es) = like_all o k e es h below in
      ap (λ w. cons_option (option_map (λ z. (e.0, z)) w) (kept_values g es)) lost
      ∙ sym (without_missing o k (kept_values g es)
      (missing_below o k (kept_values g es) (below_kept k es all)))
  goes_out k x e es (Some z) Equal lost was h below rest =
      let all : AllByRecursion (λ y. R k y ≡ Less) (keys_of es) = like_all o k e es h below in
      ap (λ w. cons_option (option_map (λ z. (e.0, z)) w) (kept_values g es)) lost
      ∙ sym (ap (λ c. cond (not (is_eq c)) ((e.0, z) ∷ without R k (kept_values g es))
      (without R k (kept_values g es))) h
      ∙ without_missing o k (kept_values g es)
      (missing_below o k (kept_values g es) (below_kept k es all)))
  goes_out k x e es None Greater lost was h below rest =
      ap (λ w. cons_option (option_map (λ z. (e.0, z)) w) (kept_values g (insert_entry R es k x)))
      was
      ∙ rest
  goes_out k x e es (Some z) Greater lost was h below rest =
      ap (λ w. cons_option (option_map (λ z. (e.0, z)) w) (kept_values g (insert_entry R es k x)))
      was
      ∙ ap (λ l. (e.0, z) ∷ l) rest
      ∙ sym (ap (λ c. cond (not (is_eq c)) ((e.0, z) ∷ without R k (kept_values g es))
      (without R k (kept_values g es))) h)

  pub kept-without : (k : K) (x : X) (es : List (K × X))
      → g x ≡ None → IsStrictlySortedBy R (keys_of es)
      → kept_values g (insert_entry R es k x) ≡ without R k (kept_values g es)
  unfolding IsStrictlySortedBy
  kept-without k x [] lost sorted = ap (λ w. cons_option (option_map (λ z. (k, z)) w) []) lost
  kept-without k x (e ∷ es) lost sorted =
      goes_out k x e es (g e.1) (R k e.0) lost refl refl sorted.0
      (kept-without k x es lost sorted.1)
