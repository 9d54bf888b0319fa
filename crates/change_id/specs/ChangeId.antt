-- The spelling of a change identifier, what a text may lack, and the number that its UUID packs.
-- Each identifier has one spelling, so that texts are equal exactly where they mean the same.
use Rattle.std.specs.Prelude.{◌≡◌, ℕ, ◌+◌, ◌*◌, ◌^◌, ◌≤◌, ◌<◌, ◌==◌, List, ◌∷◌, ◌++◌, Contains, Option, Some, None, Result, Ok, Err, decimal, if◌then◌else◌}
use Rattle.std.specs.Int.{w128, to_be_bytes}
use Rattle.std.specs.List.{before_first, after_first}
use Rattle.uuid.specs.Text.{hyphenated_text, lower}
use Rattle.change_id.specs.declared.ChangeId.{ChangeId}
use Rattle.change_id.specs.declared.IdRefused.{IdRefused}
use Rattle.change_id.specs.declared.IdRefused.TheVariants.{Form, Uuid, Number}

-- one number of 128 bits: 32 for the machine, then 32 for the disk, then 64 for the resets
abbrev pub packed : (machine disk resets : ℕ) → ℕ
packed machine disk resets = machine * 2 ^ 96 + disk * 2 ^ 64 + resets

-- the code of `/`
abbrev pub slash : ℕ
slash = 47

-- the identifier with this UUID and number
abbrev pub id_of : (uuid seq : ℕ) → ChangeId
id_of uuid seq = record { uuid = uuid; seq = seq }

-- the identifier where so many snapshots were counted: none where none was
abbrev pub counted_id : (uuid seq : ℕ) → Option ChangeId
counted_id uuid seq = if seq == 0 then None else Some (id_of uuid seq)

-- a UUID as text: its sixteen bytes, the highest first, hyphenated and in lower case
unfoldable pub uuid_text : ℕ → List ℕ
uuid_text uuid = hyphenated_text lower (to_be_bytes w128 uuid)

-- the one spelling of an identifier
abbrev pub spelling : (uuid seq : ℕ) → List ℕ
spelling uuid seq = uuid_text uuid ++ slash ∷ decimal seq

-- the numbers have 128 and 64 bits, as those of every value of the program have
pub record IdHasRange (id : ChangeId) : Type 0 where
  pub uuid_fits : id.uuid < 2 ^ 128
  pub seq_fits : id.seq < 2 ^ 64

-- besides, the snapshot is counted, from 1 on
pub record IsIdentifier (id : ChangeId) : Type 0 where
  pub ranges : IdHasRange id
  pub counted : 1 ≤ id.seq

-- the text is the spelling of the identifier
pub record Spells (text : List ℕ) (id : ChangeId) : Type 0 where
  pub identifier : IsIdentifier id
  pub spelled : text ≡ spelling id.uuid id.seq

-- the text of some UUID
abbrev pub IsUuidText : List ℕ → Type 0
IsUuidText text = (uuid : ℕ) × (uuid < 2 ^ 128) × (text ≡ uuid_text uuid)

-- the decimal digits of some number from 1 to 2 ^ 64 - 1
abbrev pub IsNumberText : List ℕ → Type 0
IsNumberText text = (n : ℕ) × (1 ≤ n) × (n < 2 ^ 64) × (text ≡ decimal n)

-- what stands before the first slash of a text, and what stands after it
abbrev pub uuid_part : List ℕ → List ℕ
uuid_part text = before_first (λ b. b == slash) text

abbrev pub number_part : List ℕ → List ℕ
number_part text = after_first (λ b. b == slash) text

-- the number of a refusal
abbrev pub refusal_number : IdRefused → ℕ
refusal_number Form = 1
refusal_number Uuid = 2
refusal_number Number = 3

-- the text has no slash
abbrev pub LacksSlash : List ℕ → Type 0
LacksSlash text = ¬ (Contains text slash)

-- it has one, and no UUID before the first
pub record LacksUuid (text : List ℕ) : Type 0 where
  pub divided : Contains text slash
  pub no_uuid : ¬ (IsUuidText (uuid_part text))

-- it has one, a UUID before the first, and no number after it
pub record LacksNumber (text : List ℕ) : Type 0 where
  pub divided : Contains text slash
  pub has_uuid : IsUuidText (uuid_part text)
  pub no_number : ¬ (IsNumberText (number_part text))

-- what reading a text may answer
abbrev pub IsAnswer : List ℕ → Result ChangeId IdRefused → Type 0
IsAnswer text (Ok id) = Spells text id
IsAnswer text (Err Form) = LacksSlash text
IsAnswer text (Err Uuid) = LacksUuid text
IsAnswer text (Err Number) = LacksNumber text
