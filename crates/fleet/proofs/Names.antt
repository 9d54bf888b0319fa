-- A name that is at no place is the name of no item.
use Rattle.std.proofs.Common.{◌≡◌, ◌≢◌, ℕ, ◌<◌, Bool, true, false, true≢false, cond, not, List, length, get_or, Option, Some, None, is_some, refl, ap, ◌∙◌, sym, nat_lt, map, arith}
use Rattle.std.specs.List.{position, position_or_len}
use Rattle.std.specs.Str.{bytes_eq}
use Rattle.std.proofs.lemmas.Bool.{not-true}
use Rattle.std.proofs.lemmas.List.Sums.{prefix_len_passes}
use Rattle.std.proofs.lemmas.Slice.Eq.{bytes_eq-Decides}
use Rattle.fleet.proofs.Places.{position-map}

none_told : (b : Bool) (n : ℕ) → cond b (Some n) None ≡ None → b ≡ false
none_told true n h = absurd (true≢false (ap is_some h))
none_told false n h = refl

-- where no item passes, the one at each place doesn't
pub position-None : {X : Type 0} (p : X → Bool) (xs : List X) → position p xs ≡ None
    → (k : ℕ) (d : X) → k < length xs → p (get_or xs k d) ≡ false
position-None p xs none k d within =
    let past : nat_lt (position_or_len p xs) (length xs) ≡ false = none_told _ _ none in
    let before : k < position_or_len p xs = grind (arith, past, within) in
    not-true _ (prefix_len_passes (λ x. not (p x)) xs k d before)

-- so a name that isn't among others can stand behind them
pub names_differ : {X : Type 0} (name_of : X → List ℕ) (name : List ℕ) (xs : List X)
    → position (λ x. bytes_eq name (name_of x)) xs ≡ None
    → (k : ℕ) (d : List ℕ) → k < length (map name_of xs) → get_or (map name_of xs) k d ≢ name
names_differ name_of name xs none k d within same =
    let names = map name_of xs in
    true≢false (sym ((bytes_eq-Decides name (get_or names k d)).1 (sym same))
    ∙ position-None (bytes_eq name) names (position-map (bytes_eq name) name_of xs ∙ none)
    k d within)
