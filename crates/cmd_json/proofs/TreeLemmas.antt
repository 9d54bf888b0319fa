-- A tree beside the data that it is.
use Rattle.std.proofs.Common.{◌≡◌, ℕ, zero, suc, Bool, true, false, ◌&&◌, if◌then◌else◌, Option, Some, None, option_map, option_and_then, MatchOption, List, [], ◌∷◌, Bor, refl, ap, ◌∙◌}
use Rattle.std.specs.Prelude.{is_some, unwrap_or}
use Rattle.json.specs.Find as find
use Rattle.json.specs.Json as json
use Rattle.json.specs.Lex.{tokens}
use Rattle.json.specs.Reads.{token_of}
use Rattle.json.specs.Token.{Token}
use Rattle.json.specs.Value.{value_view}
use Rattle.json.specs.declared.value.Value.{Value}
use Rattle.json.specs.declared.token.Token.{Token as Next}
use Rattle.serde_json.specs.Data.{Num, Data, number, array, object, Items, item, Members, no_members, put}
use Rattle.serde_json.specs.Find.{at, get_item}
use Rattle.serde_json.specs.Read.{max_depth, number_of, of_json, of_items, of_members, read}
use Rattle.cmd_json.specs.Tree.{tree_data, value_data, items_data, put_all, is_in_range, are_in_range, members_in_range}

-- ---- a tree has a value where its numbers are in range

-- the value, where the test is true
abbrev pub only_if : {A : Type 0} → Bool → A → Option A
only_if b a = if b then Some a else None

number_only_if : (n : Option Num) (other : Num)
    → option_map number n ≡ only_if (is_some n) (number (unwrap_or n other))
number_only_if None other = refl
number_only_if (Some n) other = refl

map_only_if : {A B : Type 0} (f : A → B) (b : Bool) (a : A)
    → option_map f (only_if b a) ≡ only_if b (f a)
map_only_if f true a = refl
map_only_if f false a = refl

item_only_if : (b c : Bool) (d : Data) (ds : Items)
    → option_and_then (λ d. option_map (item d) (only_if c ds)) (only_if b d)
    ≡ only_if (b && c) (item d ds)
item_only_if true c d ds = map_only_if (item d) c ds
item_only_if false c d ds = refl

member_only_if : (b c : Bool) (d : Data) (rest : Data → Option Members) (ms : Members)
    → rest d ≡ only_if c ms → option_and_then rest (only_if b d) ≡ only_if (b && c) ms
member_only_if true c d rest ms is = is
member_only_if false c d rest ms is = refl

mutual
  pub of_json-only_if : (j : json.Json) → of_json j ≡ only_if (is_in_range j) (tree_data j)
  of_json-only_if json.null = refl
  of_json-only_if (json.boolean b) = refl
  of_json-only_if (json.number text) = number_only_if (number_of text) _
  of_json-only_if (json.string text) = refl
  of_json-only_if (json.array js) =
      ap (option_map array) (of_items-only_if js)
      ∙ map_only_if array (are_in_range js) (items_data js)
  of_json-only_if (json.object js) =
      ap (option_map object) (of_members-only_if js no_members)
      ∙ map_only_if object (members_in_range js) (put_all js no_members)

  of_items-only_if : (js : json.Items) → of_items js ≡ only_if (are_in_range js) (items_data js)
  of_items-only_if json.no_items = refl
  of_items-only_if (json.item j js) =
      rw (of_json-only_if j, of_items-only_if js)
      (item_only_if (is_in_range j) (are_in_range js) (tree_data j) (items_data js))

  of_members-only_if : (js : json.Members) (found : Members)
      → of_members js found ≡ only_if (members_in_range js) (put_all js found)
  of_members-only_if json.no_members found = refl
  of_members-only_if (json.member k j js) found =
      rw (of_json-only_if j)
      (member_only_if (is_in_range j) (members_in_range js) (tree_data j)
      (λ d. of_members js (put k d found)) _
      (of_members-only_if js (put k (tree_data j) found)))

-- ---- a text is read

abbrev whole : Option (json.Json × List Token) → Option Data
whole o = option_and_then of_json (option_and_then (λ p. json.if_last p.0 p.1) o)

-- where a token follows the value, the text isn't JSON; else it is that value's text
pub read_before : (text : List ℕ) (j : json.Json) (old new : List Token) (next : Option Next)
    → json.value max_depth (tokens text) ≡ Some (j, old)
    → MatchOption next ((old ≡ []) × (new ≡ [])) (λ t. old ≡ token_of t ∷ new)
    → read text ≡ (if is_some next then None else only_if (is_in_range j) (tree_data j))
read_before text j old new None is last =
    ap whole (is ∙ ap (λ ts. Some (j, ts)) last.0) ∙ of_json-only_if j
read_before text j old new (Some t) is more = ap whole (is ∙ ap (λ ts. Some (j, ts)) more)

-- ---- looking into it

get_item-items_data : (place : ℕ) (js : json.Items)
    → option_map tree_data (find.get_item place js) ≡ get_item place (items_data js)
get_item-items_data place json.no_items = refl
get_item-items_data zero (json.item j js) = refl
get_item-items_data (suc place) (json.item j js) = get_item-items_data place js

pub at-tree_data : (place : ℕ) (j : json.Json)
    → option_map tree_data (find.at place j) ≡ at place (tree_data j)
at-tree_data place json.null = refl
at-tree_data place (json.boolean b) = refl
at-tree_data place (json.number text) = refl
at-tree_data place (json.string text) = refl
at-tree_data place (json.array js) = get_item-items_data place js
at-tree_data place (json.object js) = refl

pub data_of_ref : {A : Type 0} (r : Option (Bor (Value A)))
    → option_map (λ v. value_data v.now) r
    ≡ option_map tree_data (option_map (λ v. value_view v.now) r)
data_of_ref None = refl
data_of_ref (Some v) = refl
