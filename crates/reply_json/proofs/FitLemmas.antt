-- A list of values whose numbers fit, of its items.
use Rattle.std.proofs.Common.{◌≤◌, ℕ, List, [], ◌∷◌, length, map, take, subst}
use Rattle.std.specs.List.{All, AllByRecursion}
use Rattle.std.proofs.lemmas.List.{take_all}
use Rattle.std.proofs.lemmas.List.Elements.{recursion_from_All}
use Rattle.serde_json.specs.Data.{Data}
use Rattle.serde_json.specs.View.{items_of}
use Rattle.reply_json.specs.Fits.{NumbersFit, ItemsFit}
use Rattle.reply_json.specs.Values.{array_of}

items_fit : {T : Type 0} (data_of : T → Data) (values : List T)
    → AllByRecursion (λ value. NumbersFit (data_of value)) values
    → ItemsFit (items_of (map data_of values))
items_fit data_of [] each = tt
items_fit data_of (value ∷ values) each = (each.0, items_fit data_of values each.1)

-- all of them were looked at
pub array_fits : {T : Type 0} (data_of : T → Data) (values : List T) (i : ℕ) → length values ≤ i
    → All (λ value. NumbersFit (data_of value)) (take i values)
    → NumbersFit (array_of data_of values)
array_fits {T = T} data_of values i h each =
    let P : T → Type 0 = λ value. NumbersFit (data_of value) in
    items_fit data_of values
    (recursion_from_All P values
    (subst (λ (taken : List T). All P taken) (take_all i values h) each))
