-- The tokens of a list's items that are still to be written.
use Rattle.std.proofs.Common.{◌≡◌, ℕ, ◌+◌, ◌<◌, ◌≤◌, List, [], ◌∷◌, ◌++◌, length, get_or, drop, map, refl, sym, ap, ◌∙◌, arith, append_assoc, add-one, drop-cons, Ok}
use Rattle.std.proofs.lemmas.List.{drop_all}
use Rattle.basics.specs.declared.refusal.NoMemory.{NoMemory}
use Rattle.json.specs.Token.{Token, end_array}
use Rattle.json.specs.Tree.{items_tokens}
use Rattle.serde_json.specs.Data.{Data}
use Rattle.serde_json.specs.View.{items_of}
use Rattle.serde_json.specs.Written.{items_outline}
use Rattle.json.specs.Written.{Written, Writes}
use Rattle.reply_json.specs.ToJson.{Puts, tokens_of}

-- the tokens of some items, and the end of their list
abbrev pub rest_of : {T : Type 0} → (T → Data) → List T → List Token
rest_of data_of values = items_tokens (items_outline (items_of (map data_of values)))

-- one more item is written
pub rest-next : {T : Type 0} (data_of : T → Data) (values : List T) (i : ℕ) (value : T)
    (done : List Token) → i < length values → value ≡ get_or values i value
    → (done ++ tokens_of (data_of value)) ++ rest_of data_of (drop (i + 1) values)
    ≡ done ++ rest_of data_of (drop i values)
rest-next data_of values i value done h is =
    append_assoc done (tokens_of (data_of value)) _
    ∙ ap (λ v. done ++ (tokens_of (data_of v) ++ rest_of data_of (drop (i + 1) values))) is
    ∙ ap (λ k. done ++ (tokens_of (data_of (get_or values i value)) ++ rest_of data_of
    (drop k values))) (add-one i)
    ∙ ap (λ vs. done ++ rest_of data_of vs) (sym (drop-cons values i value h))

-- none are left
pub rest-end : {T : Type 0} (data_of : T → Data) (values : List T) (i : ℕ) → length values ≤ i
    → rest_of data_of (drop i values) ≡ end_array ∷ []
rest-end data_of values i h = ap (rest_of data_of) (drop_all i values h)

-- one token is written
pub one : {E : Type 0} {u : Unit {0}} {old new : Written} {t : Token}
    → Writes {E = E} (Ok u) old new t → Puts {E = NoMemory} (Ok tt) old new (t ∷ [])
one w = record { kept = w.room.0; whole = w.ok }

-- and then more
pub then : {u v : Unit {0}} {old mid new : Written} {front rest : List Token}
    → Puts {E = NoMemory} (Ok u) old mid front → Puts {E = NoMemory} (Ok v) mid new rest
    → Puts {E = NoMemory} (Ok tt) old new (front ++ rest)
then {old = old} {front = front} {rest = rest} first last = record {
  kept = last.kept ∙ first.kept;
  whole = last.whole ∙ ap (λ s. s ++ rest) first.whole ∙ append_assoc old.tokens front rest;
}
