-- How a body is read: a number where its bytes stand, and what is left behind it. The private
-- functions of the decoder are tied to these words; that they read spellings and nothing else is
-- proved of them.
use Rattle.std.specs.Prelude.{◌≡◌, ℕ, zero, suc, ◌≤◌, ◌+◌, ◌*◌, ◌==◌, ◌&&◌, ◌||◌, nat_lt, nat_le, Bool, true, false, List, [], ◌∷◌, length, take, drop, slice_index, Option, Some, None, option_map, Result, Ok, Err, if◌then◌else◌}
use Rattle.std.specs.Int.{w32, w64, w128, from_be_bytes}
use Rattle.basics.specs.Spelled.{IsName}
use Rattle.change_id.specs.declared.ChangeId.{ChangeId}
use Rattle.basics.specs.declared.limits.TheConstants.{MAX_INTERVAL}
use Rattle.record_codec.specs.declared.record.TheConstants.{MAX_WAY, MAX_HOW}
use Rattle.record_codec.specs.declared.parse.CodecRefused.{CodecRefused}
use Rattle.record_codec.specs.declared.parse.CodecRefused.TheVariants.{Bad, NoMemory}
use Rattle.record_codec.specs.declared.record.Record.{Record}
use Rattle.record_codec.specs.declared.record.Record.TheVariants.{PlanMade, MigrationStarted, Chosen, SnapTaken, IdsStored, VolumesMade, CheckpointAdded, StageBegun, StageDone, Paused, SnapRemoved, CutoverSet, PowerStored, PoweredOff, OffSeen, FinalSnapTaken, CancelAsked, Ended}
use Rattle.record_codec.specs.declared.record.Kind.{Kind}
use Rattle.record_codec.specs.declared.record.Kind.TheVariants.{PlanMade as PlanMadeKind, MigrationStarted as MigrationStartedKind, Chosen as ChosenKind, SnapTaken as SnapTakenKind, IdsStored as IdsStoredKind, VolumesMade as VolumesMadeKind, CheckpointAdded as CheckpointAddedKind, StageBegun as StageBegunKind, StageDone as StageDoneKind, Paused as PausedKind, SnapRemoved as SnapRemovedKind, CutoverSet as CutoverSetKind, PowerStored as PowerStoredKind, PoweredOff as PoweredOffKind, OffSeen as OffSeenKind, FinalSnapTaken as FinalSnapTakenKind, CancelAsked as CancelAskedKind, Ended as EndedKind}

unfoldable pub word_at : List ℕ → ℕ
word_at bytes = from_be_bytes w32 bytes

unfoldable pub long_at : List ℕ → ℕ
long_at bytes = from_be_bytes w64 bytes

unfoldable pub uuid_at : List ℕ → ℕ
uuid_at bytes = from_be_bytes w128 bytes

abbrev pub byte_at : List ℕ → ℕ
byte_at bytes = slice_index bytes 0

abbrev pub flag_of : ℕ → Option Bool
flag_of byte = if byte == 0 then Some false else if byte == 1 then Some true else None

abbrev pub flag_at : List ℕ → Option Bool
flag_at bytes = flag_of (byte_at bytes)

-- how many bytes the fields of a kind take, where that is fixed
abbrev pub fixed_size : Kind → ℕ
fixed_size PlanMadeKind = 0
fixed_size MigrationStartedKind = 16
fixed_size ChosenKind = 13
fixed_size SnapTakenKind = 16
fixed_size IdsStoredKind = 0
fixed_size VolumesMadeKind = 4
fixed_size CheckpointAddedKind = 13
fixed_size StageBegunKind = 8
fixed_size StageDoneKind = 16
fixed_size PausedKind = 12
fixed_size SnapRemovedKind = 8
fixed_size CutoverSetKind = 13
fixed_size PowerStoredKind = 5
fixed_size PoweredOffKind = 4
fixed_size OffSeenKind = 5
fixed_size FinalSnapTakenKind = 24
fixed_size CancelAskedKind = 4
fixed_size EndedKind = 13

-- the record of a kind whose size is fixed, from that many bytes
abbrev pub fixed_record : Kind → List ℕ → Option Record
fixed_record PlanMadeKind bytes = None
fixed_record MigrationStartedKind bytes =
    Some (MigrationStarted (word_at bytes) (word_at (drop 4 bytes))
    (word_at (drop 4 (drop 4 bytes))) (word_at (drop 4 (drop 4 (drop 4 bytes)))))
fixed_record ChosenKind bytes =
    Some (Chosen (word_at bytes) (byte_at (drop 4 bytes)) (long_at (drop 1 (drop 4 bytes))))
fixed_record SnapTakenKind bytes =
    Some (SnapTaken (word_at bytes) (word_at (drop 4 bytes)) (long_at (drop 4 (drop 4 bytes))))
fixed_record IdsStoredKind bytes = None
fixed_record VolumesMadeKind bytes = Some (VolumesMade (word_at bytes))
fixed_record CheckpointAddedKind bytes =
    option_map (λ flag. CheckpointAdded (word_at bytes) (word_at (drop 4 bytes))
    (word_at (drop 4 (drop 4 bytes))) flag)
    (flag_at (drop 4 (drop 4 (drop 4 bytes))))
fixed_record StageBegunKind bytes = Some (StageBegun (word_at bytes) (word_at (drop 4 bytes)))
fixed_record StageDoneKind bytes =
    Some (StageDone (word_at bytes) (word_at (drop 4 bytes)) (long_at (drop 4 (drop 4 bytes))))
fixed_record PausedKind bytes = Some (Paused (word_at bytes) (long_at (drop 4 bytes)))
fixed_record SnapRemovedKind bytes = Some (SnapRemoved (word_at bytes) (word_at (drop 4 bytes)))
fixed_record CutoverSetKind bytes =
    option_map (λ flag. CutoverSet (word_at bytes) flag (long_at (drop 1 (drop 4 bytes))))
    (flag_at (drop 4 bytes))
fixed_record PowerStoredKind bytes =
    option_map (λ flag. PowerStored (word_at bytes) flag) (flag_at (drop 4 bytes))
fixed_record PoweredOffKind bytes = Some (PoweredOff (word_at bytes))
fixed_record OffSeenKind bytes =
    option_map (λ flag. OffSeen (word_at bytes) flag) (flag_at (drop 4 bytes))
fixed_record FinalSnapTakenKind bytes =
    Some (FinalSnapTaken (word_at bytes) (word_at (drop 4 bytes))
    (long_at (drop 4 (drop 4 bytes))) (long_at (drop 8 (drop 4 (drop 4 bytes)))))
fixed_record CancelAskedKind bytes = Some (CancelAsked (word_at bytes))
fixed_record EndedKind bytes =
    Some (Ended (word_at bytes) (byte_at (drop 4 bytes)) (long_at (drop 1 (drop 4 bytes))))

-- whether a record of such a kind keeps its rule; of the other kinds it tells nothing
abbrev pub fixed_rule : Record → Bool
fixed_rule (Chosen mig way at) = nat_le way MAX_WAY
fixed_rule (CutoverSet plan has at) = has || at == 0
fixed_rule (FinalSnapTaken mig snap mark place) = nat_lt place mark
fixed_rule (Ended mig how place) = nat_le how MAX_HOW && (how == 0 || place == 0)
fixed_rule (MigrationStarted mig plan vm disks) = true
fixed_rule (SnapTaken mig snap mark) = true
fixed_rule (VolumesMade mig) = true
fixed_rule (CheckpointAdded mig previous current last) = true
fixed_rule (StageBegun mig disk) = true
fixed_rule (StageDone mig disk written) = true
fixed_rule (Paused mig at) = true
fixed_rule (SnapRemoved mig snap) = true
fixed_rule (PowerStored mig on) = true
fixed_rule (PoweredOff mig) = true
fixed_rule (OffSeen mig off) = true
fixed_rule (CancelAsked mig) = true
fixed_rule (PlanMade plan name interval vms) = true
fixed_rule (IdsStored mig ids) = true

-- the record, where it keeps its rule
abbrev pub where_kept : Option Record → Option Record
where_kept None = None
where_kept (Some r) = if fixed_rule r then Some r else None

abbrev pub parse_fixed : Kind → List ℕ → Option Record
parse_fixed kind bytes =
    if length bytes == fixed_size kind then where_kept (fixed_record kind bytes) else None

-- the first numbers, or identifiers, of a row
abbrev pub words_in : (count : ℕ) → List ℕ → List ℕ
words_in zero bytes = []
words_in (suc count) bytes = word_at bytes ∷ words_in count (drop 4 bytes)

abbrev pub id_at : List ℕ → ChangeId
id_at bytes = record { uuid = uuid_at bytes; seq = long_at (drop 16 bytes) }

abbrev pub ids_in : (count : ℕ) → List ℕ → List ChangeId
ids_in zero bytes = []
ids_in (suc count) bytes = id_at bytes ∷ ids_in count (drop 8 (drop 16 bytes))

-- the parts of a plan's fields
abbrev pub behind_name_len : List ℕ → List ℕ
behind_name_len bytes = drop 1 (drop 4 bytes)

abbrev pub name_len : List ℕ → ℕ
name_len bytes = byte_at (drop 4 bytes)

abbrev pub plan_name : List ℕ → List ℕ
plan_name bytes = take (name_len bytes) (behind_name_len bytes)

abbrev pub behind_name : List ℕ → List ℕ
behind_name bytes = drop (name_len bytes) (behind_name_len bytes)

abbrev pub plan_interval : List ℕ → ℕ
plan_interval bytes = word_at (behind_name bytes)

abbrev pub plan_count : List ℕ → ℕ
plan_count bytes = word_at (drop 4 (behind_name bytes))

abbrev pub plan_vms : List ℕ → List ℕ
plan_vms bytes = drop 4 (drop 4 (behind_name bytes))

-- what the fields of a plan need, so that they are those of `plan_at`
pub record PlanNeeds (bytes : List ℕ) : Type 0 where
  pub begun : 5 ≤ length bytes
  pub whole : name_len bytes + 8 ≤ length (behind_name_len bytes)
  pub named : IsName (plan_name bytes)
  pub least : 1 ≤ plan_interval bytes
  pub most : plan_interval bytes ≤ MAX_INTERVAL
  pub counted : length (plan_vms bytes) ≡ 4 * plan_count bytes

abbrev pub plan_at : List ℕ → Record
plan_at bytes = PlanMade (word_at bytes) (plan_name bytes) (plan_interval bytes)
    (words_in (plan_count bytes) (plan_vms bytes))

-- the same for the identifiers of a snapshot
abbrev pub ids_count : List ℕ → ℕ
ids_count bytes = word_at (drop 4 bytes)

abbrev pub ids_row : List ℕ → List ℕ
ids_row bytes = drop 4 (drop 4 bytes)

pub record IdsNeed (bytes : List ℕ) : Type 0 where
  pub begun : 8 ≤ length bytes
  pub counted : length (ids_row bytes) ≡ 24 * ids_count bytes

abbrev pub ids_at : List ℕ → Record
ids_at bytes = IdsStored (word_at bytes) (ids_in (ids_count bytes) (ids_row bytes))

-- a record that is read, refused, or not read for want of memory
abbrev pub Reads : (needs : Type 0) → Record → Result Record CodecRefused → Type 0
Reads needs r (Ok read) = needs × (read ≡ r)
Reads needs r (Err Bad) = ¬ needs
Reads needs r (Err NoMemory) = needs
