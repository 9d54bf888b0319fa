-- A tree of `json` in the words of `serde_json`: its numbers as numbers, and each object with one
-- member of a name, which is the last of them.
use Rattle.std.specs.Prelude.{ℕ, List, Bool, true, ◌&&◌, is_some, unwrap_or, negsuc}
use Rattle.json.specs.Json as json
use Rattle.json.specs.Value.{value_view}
use Rattle.json.specs.declared.value.Value.{Value}
use Rattle.serde_json.specs.Data.{Num, negative, Data, null, boolean, number, string, array, object, Items, no_items, item, Members, no_members, put}
use Rattle.serde_json.specs.Read.{number_of}

-- the number of a text; where it is too large to be one, any number that isn't unsigned
abbrev pub number_or_other : List ℕ → Num
number_or_other text = unwrap_or (number_of text) (negative (negsuc 0))

abbrev mutual
  pub tree_data : json.Json → Data
  tree_data json.null = null
  tree_data (json.boolean b) = boolean b
  tree_data (json.number text) = number (number_or_other text)
  tree_data (json.string text) = string text
  tree_data (json.array js) = array (items_data js)
  tree_data (json.object js) = object (put_all js no_members)

  pub items_data : json.Items → Items
  items_data json.no_items = no_items
  items_data (json.item j js) = item (tree_data j) (items_data js)

  pub put_all : json.Members → Members → Members
  put_all json.no_members found = found
  put_all (json.member k j js) found = put_all js (put k (tree_data j) found)

-- the data of a value in memory
abbrev pub value_data : {A : Type 0} → Value A → Data
value_data v = tree_data (value_view v)

-- each number is one, so that the tree has a value
abbrev mutual
  pub is_in_range : json.Json → Bool
  is_in_range json.null = true
  is_in_range (json.boolean b) = true
  is_in_range (json.number text) = is_some (number_of text)
  is_in_range (json.string text) = true
  is_in_range (json.array js) = are_in_range js
  is_in_range (json.object js) = members_in_range js

  pub are_in_range : json.Items → Bool
  are_in_range json.no_items = true
  are_in_range (json.item j js) = is_in_range j && are_in_range js

  pub members_in_range : json.Members → Bool
  members_in_range json.no_members = true
  members_in_range (json.member k j js) = is_in_range j && members_in_range js
