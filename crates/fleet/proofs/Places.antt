-- Places in lists whose items are seen through a function, as a map's keys are and a fleet's hosts.
use Rattle.std.proofs.Common.{◌≡◌, ℕ, zero, suc, ◌+◌, Bool, true, false, true≢false, cond, not, List, [], ◌∷◌, ◌++◌, map, length, Option, Some, None, is_some, refl, ap, ◌∙◌, sym, slice_get, nat_lt, String, string_bytes}
use Rattle.std.proofs.lemmas.List.{length-map, map-append}
use Rattle.std.specs.List.{position, prefix_len, slice_set}
use Rattle.std.specs.Option.{option_map_or}
use Rattle.std.specs.Map.{keys_of, values_of, lookup}
use Rattle.std.specs.Str.{bytes_eq}
use Rattle.std.specs.String.{string_eq}
use Rattle.indexmap.specs.IndexMap.{insert_entry}
use Rattle.indexmap.specs.Layout.{set_value_at}
use Rattle.indexmap.proofs.MapLemmas.{absent_from_lookup, some_index, insert_entry-absent}
use Rattle.basics.proofs.Options.{none_is}
use Rattle.fleet.specs.NameMap.{with_bytes, place_of, value_at, with_value_at}

prefix_len-map : {X Y : Type 0} (p : Y → Bool) (f : X → Y) (xs : List X)
    → prefix_len p (map f xs) ≡ prefix_len (λ x. p (f x)) xs
prefix_len-map p f [] = refl
prefix_len-map p f (x ∷ xs) = ap (λ n. cond (p (f x)) (1 + n) 0) (prefix_len-map p f xs)

-- the first place at which a test passes is that of the items themselves
pub position-map : {X Y : Type 0} (p : Y → Bool) (f : X → Y) (xs : List X)
    → position p (map f xs) ≡ position (λ x. p (f x)) xs
position-map p f xs = rw (prefix_len-map (λ y. not (p y)) f xs, length-map xs f)

-- a value that is replaced by its place in the map is replaced in the list
pub with_bytes-set : {Z V : Type 0} (entries : List (String Z × V)) (place : ℕ) (value : V)
    → with_bytes (set_value_at entries place value)
    ≡ with_value_at place value (with_bytes entries)
with_bytes-set [] place value = refl
with_bytes-set (e ∷ entries) zero value = refl
with_bytes-set {Z} {V} (e ∷ entries) (suc place) value =
    ap (λ es. (string_bytes e.0, e.1) ∷ es) (with_bytes-set entries place value)
    ∙ outside (slice_get (with_bytes entries) place)
  where
    outside : (found : Option (List ℕ × V))
        → (string_bytes e.0, e.1)
        ∷ option_map_or (λ x. slice_set (with_bytes entries) place (x.0, value)) found
        (with_bytes entries)
        ≡ option_map_or
        (λ x. (string_bytes e.0, e.1) ∷ slice_set (with_bytes entries) place (x.0, value)) found
        ((string_bytes e.0, e.1) ∷ with_bytes entries)
    outside None = refl
    outside (Some x) = refl

-- a value is at the same place
pub value_at-values : {Z V : Type 0} (entries : List (String Z × V)) (place : ℕ)
    → value_at place (with_bytes entries) ≡ slice_get (values_of entries) place
value_at-values [] place = refl
value_at-values (e ∷ entries) zero = refl
value_at-values (e ∷ entries) (suc place) = value_at-values entries place

-- a name is at the place of its key
pub place_of-keys : {Z V : Type 0} (name : List ℕ) (entries : List (String Z × V))
    → position (λ k. bytes_eq name (string_bytes k)) (keys_of entries)
    ≡ place_of name (with_bytes entries)
place_of-keys name entries =
    position-map (λ k. bytes_eq name (string_bytes k)) (λ e. e.0) entries
    ∙ sym (position-map (λ e. bytes_eq name e.0) (λ e. (string_bytes e.0, e.1)) entries)

-- a key whose name isn't there goes last
pub with_bytes-insert : {Z V : Type 0} (entries : List (String Z × V)) (key : String Z) (value : V)
    → place_of (string_bytes key) (with_bytes entries) ≡ None
    → with_bytes (insert_entry string_eq entries key value)
    ≡ with_bytes entries ++ (string_bytes key, value) ∷ []
with_bytes-insert {Z} {V} entries key value h =
    let gone : lookup (string_eq key) entries ≡ None =
    none_is _ (sym (some_index (string_eq key) entries)
    ∙ ap is_some (place_of-keys (string_bytes key) entries ∙ h)) in
    ap with_bytes (insert_entry-absent string_eq key value entries
    (absent_from_lookup (string_eq key) entries gone))
    ∙ map-append _ entries ((key, value) ∷ [])
