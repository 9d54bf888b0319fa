-- The values that stand in replies: the text of a change identifier and of a snapshot, the contents
-- of a sector, and plain values as data of JSON.
use Rattle.std.specs.Prelude.{ℕ, true, ◌==◌, List, [], ◌++◌, map, Option, Some, None, if◌then◌else◌, codes, decimal, slice_index, encode_utf8_all}
use Rattle.std.specs.List.{list_all}
use Rattle.change_id.specs.declared.ChangeId.{ChangeId}
use Rattle.change_id.specs.ChangeId.{spelling}
use Rattle.hex.specs.Hex.{encode_lower}
use Rattle.serde_json.specs.Data.{Data, null, boolean, number, unsigned, string, array, Items, no_items, item}
use Rattle.serde_json.specs.View.{items_of}

abbrev pub number_of : ℕ → Data
number_of n = number (unsigned n)

-- a value, or null where it is missing
abbrev pub or_null : {T : Type 0} → (T → Data) → Option T → Data
or_null data_of None = null
or_null data_of (Some value) = data_of value

-- a list of values, each as its own data
abbrev pub array_of : {T : Type 0} → (T → Data) → List T → Data
array_of data_of values = array (items_of (map data_of values))

abbrev pub pair_of : Data → Data → Data
pair_of first second = array (item first (item second no_items))

abbrev pub id_data : ChangeId → Data
id_data id = string (spelling id.uuid id.seq)

-- a snapshot by its id, and no text for 0, which is none
abbrev pub snapshot_text : ℕ → List ℕ
snapshot_text id = if id == 0 then [] else codes "snapshot-" ++ decimal id

-- the one number that all bytes of a sector are, or else their hexadecimal digits
abbrev pub sector_data : List ℕ → Data
sector_data bytes =
    if list_all (λ b. b == slice_index bytes 0) bytes then number_of (slice_index bytes 0)
    else string (encode_lower bytes)

-- the text whose characters have these codes, which for ASCII are its bytes
abbrev pub digits_data : List ℕ → Data
digits_data digits = string (encode_utf8_all digits)

-- that a disturbance was done, or else the text of its refusal
abbrev pub disturbed_data : Option (List ℕ) → Data
disturbed_data None = boolean true
disturbed_data (Some refusal) = string refusal
