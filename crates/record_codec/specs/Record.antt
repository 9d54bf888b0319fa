-- The grammar of records: one byte for the kind, then the fields of that kind in order, nothing
-- else. Numbers are big-endian. `fields_of` is the table of kinds and fields; `KeepsRule` is what a
-- record owes besides. What has a spelling has one, so the records of a journal are known by its
-- bytes.
use Rattle.std.specs.Prelude.{◌≡◌, ◌≢◌, ℕ, ◌+◌, ◌*◌, ◌^◌, ◌≤◌, ◌<◌, Bool, false, List, [], ◌∷◌, ◌++◌, length, map, Option, Some, None, if◌then◌else◌}
use Rattle.std.specs.List.{concat, sum_by, AllByRecursion}
use Rattle.std.specs.Int.{w32, w64, w128, to_be_bytes}
use Rattle.basics.specs.Spelled.{IsName}
use Rattle.change_id.specs.declared.ChangeId.{ChangeId}
use Rattle.change_id.specs.ChangeId.{IdHasRange}
use Rattle.basics.specs.declared.limits.TheConstants.{MAX_INTERVAL}
use Rattle.record_codec.specs.declared.record.TheConstants.{MAX_WAY, MAX_HOW}
use Rattle.record_codec.specs.declared.record.Record.{Record}
use Rattle.record_codec.specs.declared.record.Record.TheVariants.{PlanMade, MigrationStarted, Chosen, SnapTaken, IdsStored, VolumesMade, CheckpointAdded, StageBegun, StageDone, Paused, SnapRemoved, CutoverSet, PowerStored, PoweredOff, OffSeen, FinalSnapTaken, CancelAsked, Ended}
use Rattle.record_codec.specs.declared.record.Kind.{Kind}
use Rattle.record_codec.specs.declared.record.Kind.TheVariants.{PlanMade as PlanMadeKind, MigrationStarted as MigrationStartedKind, Chosen as ChosenKind, SnapTaken as SnapTakenKind, IdsStored as IdsStoredKind, VolumesMade as VolumesMadeKind, CheckpointAdded as CheckpointAddedKind, StageBegun as StageBegunKind, StageDone as StageDoneKind, Paused as PausedKind, SnapRemoved as SnapRemovedKind, CutoverSet as CutoverSetKind, PowerStored as PowerStoredKind, PoweredOff as PoweredOffKind, OffSeen as OffSeenKind, FinalSnapTaken as FinalSnapTakenKind, CancelAsked as CancelAskedKind, Ended as EndedKind}

-- a field and what stands in it: a number of one, four or eight bytes, a flag, a text, numbers, or
-- identifiers
pub data Field : Type 0 where
  Byte : ℕ → Field
  Word : ℕ → Field
  Long : ℕ → Field
  Flag : Bool → Field
  Text : List ℕ → Field
  Words : List ℕ → Field
  Ids : List ChangeId → Field

unfoldable pub word_bytes : ℕ → List ℕ
word_bytes n = to_be_bytes w32 n

unfoldable pub long_bytes : ℕ → List ℕ
long_bytes n = to_be_bytes w64 n

unfoldable pub uuid_bytes : ℕ → List ℕ
uuid_bytes uuid = to_be_bytes w128 uuid

abbrev pub id_bytes : ChangeId → List ℕ
id_bytes id = uuid_bytes id.uuid ++ long_bytes id.seq

abbrev pub flag_byte : Bool → ℕ
flag_byte flag = if flag then 1 else 0

abbrev pub all_word_bytes : List ℕ → List ℕ
all_word_bytes numbers = concat (map word_bytes numbers)

abbrev pub all_id_bytes : List ChangeId → List ℕ
all_id_bytes ids = concat (map id_bytes ids)

-- a text has its length in one byte before it, a list the number of its items in four
abbrev pub field_bytes : Field → List ℕ
field_bytes (Byte n) = n ∷ []
field_bytes (Word n) = word_bytes n
field_bytes (Long n) = long_bytes n
field_bytes (Flag flag) = flag_byte flag ∷ []
field_bytes (Text text) = length text ∷ text
field_bytes (Words numbers) = word_bytes (length numbers) ++ all_word_bytes numbers
field_bytes (Ids ids) = word_bytes (length ids) ++ all_id_bytes ids

-- how many bytes a field takes
abbrev pub field_size : Field → ℕ
field_size (Byte n) = 1
field_size (Word n) = 4
field_size (Long n) = 8
field_size (Flag flag) = 1
field_size (Text text) = 1 + length text
field_size (Words numbers) = 4 + 4 * length numbers
field_size (Ids ids) = 4 + 24 * length ids

-- each number of a field has the bits that it is given
abbrev pub HasRange : Field → Type 0
HasRange (Byte n) = n < 2 ^ 8
HasRange (Word n) = n < 2 ^ 32
HasRange (Long n) = n < 2 ^ 64
HasRange (Flag flag) = Unit {0}
HasRange (Text text) = Unit {0}
HasRange (Words numbers) = AllByRecursion (λ n. n < 2 ^ 32) numbers
HasRange (Ids ids) = AllByRecursion IdHasRange ids

abbrev pub kind_of : Record → Kind
kind_of (PlanMade plan name interval vms) = PlanMadeKind
kind_of (MigrationStarted mig plan vm disks) = MigrationStartedKind
kind_of (Chosen mig way at) = ChosenKind
kind_of (SnapTaken mig snap mark) = SnapTakenKind
kind_of (IdsStored mig ids) = IdsStoredKind
kind_of (VolumesMade mig) = VolumesMadeKind
kind_of (CheckpointAdded mig previous current last) = CheckpointAddedKind
kind_of (StageBegun mig disk) = StageBegunKind
kind_of (StageDone mig disk written) = StageDoneKind
kind_of (Paused mig at) = PausedKind
kind_of (SnapRemoved mig snap) = SnapRemovedKind
kind_of (CutoverSet plan has at) = CutoverSetKind
kind_of (PowerStored mig on) = PowerStoredKind
kind_of (PoweredOff mig) = PoweredOffKind
kind_of (OffSeen mig off) = OffSeenKind
kind_of (FinalSnapTaken mig snap mark place) = FinalSnapTakenKind
kind_of (CancelAsked mig) = CancelAskedKind
kind_of (Ended mig how place) = EndedKind

-- the migration whose record it is; the records of plans are of none
abbrev pub migration_of : Record → Option ℕ
migration_of (PlanMade plan name interval vms) = None
migration_of (MigrationStarted mig plan vm disks) = Some mig
migration_of (Chosen mig way at) = Some mig
migration_of (SnapTaken mig snap mark) = Some mig
migration_of (IdsStored mig ids) = Some mig
migration_of (VolumesMade mig) = Some mig
migration_of (CheckpointAdded mig previous current last) = Some mig
migration_of (StageBegun mig disk) = Some mig
migration_of (StageDone mig disk written) = Some mig
migration_of (Paused mig at) = Some mig
migration_of (SnapRemoved mig snap) = Some mig
migration_of (CutoverSet plan has at) = None
migration_of (PowerStored mig on) = Some mig
migration_of (PoweredOff mig) = Some mig
migration_of (OffSeen mig off) = Some mig
migration_of (FinalSnapTaken mig snap mark place) = Some mig
migration_of (CancelAsked mig) = Some mig
migration_of (Ended mig how place) = Some mig

abbrev pub kind_byte : Kind → ℕ
kind_byte PlanMadeKind = 1
kind_byte MigrationStartedKind = 2
kind_byte ChosenKind = 3
kind_byte SnapTakenKind = 4
kind_byte IdsStoredKind = 5
kind_byte VolumesMadeKind = 6
kind_byte CheckpointAddedKind = 7
kind_byte StageBegunKind = 8
kind_byte StageDoneKind = 9
kind_byte PausedKind = 10
kind_byte SnapRemovedKind = 11
kind_byte CutoverSetKind = 12
kind_byte PowerStoredKind = 13
kind_byte PoweredOffKind = 14
kind_byte OffSeenKind = 15
kind_byte FinalSnapTakenKind = 16
kind_byte CancelAskedKind = 17
kind_byte EndedKind = 18

abbrev pub fields_of : Record → List Field
fields_of (PlanMade plan name interval vms) = Word plan ∷ Text name ∷ Word interval ∷ Words vms ∷ []
fields_of (MigrationStarted mig plan vm disks) = Word mig ∷ Word plan ∷ Word vm ∷ Word disks ∷ []
fields_of (Chosen mig way at) = Word mig ∷ Byte way ∷ Long at ∷ []
fields_of (SnapTaken mig snap mark) = Word mig ∷ Word snap ∷ Long mark ∷ []
fields_of (IdsStored mig ids) = Word mig ∷ Ids ids ∷ []
fields_of (VolumesMade mig) = Word mig ∷ []
fields_of (CheckpointAdded mig previous current last) =
    Word mig ∷ Word previous ∷ Word current ∷ Flag last ∷ []
fields_of (StageBegun mig disk) = Word mig ∷ Word disk ∷ []
fields_of (StageDone mig disk written) = Word mig ∷ Word disk ∷ Long written ∷ []
fields_of (Paused mig at) = Word mig ∷ Long at ∷ []
fields_of (SnapRemoved mig snap) = Word mig ∷ Word snap ∷ []
fields_of (CutoverSet plan has at) = Word plan ∷ Flag has ∷ Long at ∷ []
fields_of (PowerStored mig on) = Word mig ∷ Flag on ∷ []
fields_of (PoweredOff mig) = Word mig ∷ []
fields_of (OffSeen mig off) = Word mig ∷ Flag off ∷ []
fields_of (FinalSnapTaken mig snap mark place) = Word mig ∷ Word snap ∷ Long mark ∷ Long place ∷ []
fields_of (CancelAsked mig) = Word mig ∷ []
fields_of (Ended mig how place) = Word mig ∷ Byte how ∷ Long place ∷ []

-- what a plan owes: a name, an interval of a minute to a week, and a list whose length has four
-- bytes
pub record IsPlan (name : List ℕ) (interval : ℕ) (vms : List ℕ) : Type 0 where
  pub named : IsName name
  pub least : 1 ≤ interval
  pub most : interval ≤ MAX_INTERVAL
  pub few : length vms < 2 ^ 32

abbrev pub KeepsRule : Record → Type 0
KeepsRule (PlanMade plan name interval vms) = IsPlan name interval vms
KeepsRule (Chosen mig way at) = way ≤ MAX_WAY
KeepsRule (IdsStored mig ids) = length ids < 2 ^ 32
KeepsRule (CutoverSet plan has at) = has ≡ false → at ≡ 0
KeepsRule (FinalSnapTaken mig snap mark place) = place < mark
KeepsRule (Ended mig how place) = (how ≤ MAX_HOW) × (how ≢ 0 → place ≡ 0)
KeepsRule (MigrationStarted mig plan vm disks) = Unit {0}
KeepsRule (SnapTaken mig snap mark) = Unit {0}
KeepsRule (VolumesMade mig) = Unit {0}
KeepsRule (CheckpointAdded mig previous current last) = Unit {0}
KeepsRule (StageBegun mig disk) = Unit {0}
KeepsRule (StageDone mig disk written) = Unit {0}
KeepsRule (Paused mig at) = Unit {0}
KeepsRule (SnapRemoved mig snap) = Unit {0}
KeepsRule (PowerStored mig on) = Unit {0}
KeepsRule (PoweredOff mig) = Unit {0}
KeepsRule (OffSeen mig off) = Unit {0}
KeepsRule (CancelAsked mig) = Unit {0}

-- the numbers of the record have their ranges, as those of every value of the program have, and it
-- keeps its rule
pub record HasSpelling (r : Record) : Type 0 where
  pub ranges : AllByRecursion HasRange (fields_of r)
  pub rule : KeepsRule r

abbrev pub spelled_fields : List Field → List ℕ
spelled_fields fields = concat (map field_bytes fields)

abbrev pub spelling : Record → List ℕ
spelling r = kind_byte (kind_of r) ∷ spelled_fields (fields_of r)

-- how many bytes the spelling of a record has
abbrev pub spelled_size : Record → ℕ
spelled_size r = 1 + sum_by field_size (fields_of r)

pub record Spells (body : List ℕ) (r : Record) : Type 0 where
  pub record_has : HasSpelling r
  pub spelled : body ≡ spelling r
