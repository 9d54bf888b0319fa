-- Records whose fields have a fixed size: what stands in such bytes, and what is read of a
-- spelling.
use Rattle.std.proofs.Common.{◌≡◌, ℕ, zero, suc, ◌+◌, ◌<◌, ◌≤◌, Bool, true, false, List, [], ◌∷◌, ◌++◌, length, drop, Option, Some, None, refl, sym, ap, ◌∙◌, subst, arith, eq-eqb}
use Rattle.std.specs.Prelude.{◌==◌, nat_lt, nat_le, ◌&&◌, ◌||◌, slice_index_or, option_map, if◌then◌else◌}
use Rattle.std.specs.List.{AllByRecursion}
use Rattle.std.proofs.lemmas.Bool.{eqb-true, ltb-true, lt-ltb}
use Rattle.std.proofs.lemmas.Option.{same_Some, none-some}
use Rattle.std.proofs.lemmas.Bool.Decides.{nat_tests}
use Rattle.std.proofs.lemmas.List.{length-drop}
use Rattle.record_codec.specs.declared.record.Record.{Record}
use Rattle.record_codec.specs.declared.record.Record.TheVariants.{PlanMade, MigrationStarted, Chosen, SnapTaken, IdsStored, VolumesMade, CheckpointAdded, StageBegun, StageDone, Paused, SnapRemoved, CutoverSet, PowerStored, PoweredOff, OffSeen, FinalSnapTaken, CancelAsked, Ended}
use Rattle.record_codec.specs.declared.record.Kind.{Kind}
use Rattle.record_codec.specs.declared.record.Kind.TheVariants.{PlanMade as PlanMadeKind, MigrationStarted as MigrationStartedKind, Chosen as ChosenKind, SnapTaken as SnapTakenKind, IdsStored as IdsStoredKind, VolumesMade as VolumesMadeKind, CheckpointAdded as CheckpointAddedKind, StageBegun as StageBegunKind, StageDone as StageDoneKind, Paused as PausedKind, SnapRemoved as SnapRemovedKind, CutoverSet as CutoverSetKind, PowerStored as PowerStoredKind, PoweredOff as PoweredOffKind, OffSeen as OffSeenKind, FinalSnapTaken as FinalSnapTakenKind, CancelAsked as CancelAskedKind, Ended as EndedKind}
use Rattle.record_codec.specs.Record.{Field, Byte, Word, Long, Flag, word_bytes, long_bytes, flag_byte, HasRange, kind_of, kind_byte, fields_of, KeepsRule, spelled_fields, Spells}
use Rattle.record_codec.specs.Parse.{word_at, long_at, byte_at, flag_of, flag_at, fixed_size, fixed_record, fixed_rule, where_kept, parse_fixed}
use Rattle.record_codec.specs.declared.record.TheConstants.{MAX_WAY, MAX_HOW}
use Rattle.record_codec.proofs.KindBytes.{kinds_differ}
use Rattle.record_codec.proofs.Numbers.{IsBytes, drop_bytes, word_split, long_split, word_fits, long_fits, word_back, long_back}

-- the bytes are those of the fields, whose numbers have their ranges
pub record Stands (bytes : List ℕ) (fields : List Field) : Type 0 where
  pub ranges : AllByRecursion HasRange fields
  pub spelled : bytes ≡ spelled_fields fields

pub record Sized (n : ℕ) (bytes : List ℕ) : Type 0 where
  pub len : length bytes ≡ n
  pub fit : IsBytes bytes

sized_drop : (k n : ℕ) (bytes : List ℕ) → Sized (k + n) bytes → Sized n (drop k bytes)
sized_drop k n bytes h =
    record {
      len = (let l = h.len in length-drop k bytes ∙ omega arith);
      fit = drop_bytes k bytes
          h.fit;
    }

pub stands_end : (bytes : List ℕ) → Sized 0 bytes → Stands bytes []
stands_end [] h = record { ranges = tt; spelled = refl }
stands_end (b ∷ bytes) h = let l = h.len in absurd (omega arith)

pub stands_word : (n : ℕ) (bytes : List ℕ) (fields : List Field) → Sized (4 + n) bytes
    → (Sized n (drop 4 bytes) → Stands (drop 4 bytes) fields)
    → Stands bytes (Word (word_at bytes) ∷ fields)
stands_word n bytes fields h rest =
    let r = rest (sized_drop 4 n bytes h) in
    let l = h.len in
    record {
      ranges = (word_fits bytes h.fit, r.ranges);
      spelled = word_split bytes (omega arith) h.fit
          ∙ ap (λ (ys : List ℕ). word_bytes (word_at bytes) ++ ys) r.spelled;
    }

pub stands_long : (n : ℕ) (bytes : List ℕ) (fields : List Field) → Sized (8 + n) bytes
    → (Sized n (drop 8 bytes) → Stands (drop 8 bytes) fields)
    → Stands bytes (Long (long_at bytes) ∷ fields)
stands_long n bytes fields h rest =
    let r = rest (sized_drop 8 n bytes h) in
    let l = h.len in
    record {
      ranges = (long_fits bytes h.fit, r.ranges);
      spelled = long_split bytes (omega arith) h.fit
          ∙ ap (λ (ys : List ℕ). long_bytes (long_at bytes) ++ ys) r.spelled;
    }

pub byte_split : (bytes : List ℕ) → 1 ≤ length bytes → bytes ≡ byte_at bytes ∷ drop 1 bytes
byte_split [] h = absurd (omega arith)
byte_split (b ∷ bytes) h = refl

pub stands_byte : (n : ℕ) (bytes : List ℕ) (fields : List Field) → Sized (1 + n) bytes
    → (Sized n (drop 1 bytes) → Stands (drop 1 bytes) fields)
    → Stands bytes (Byte (byte_at bytes) ∷ fields)
stands_byte n bytes fields h rest =
    let r = rest (sized_drop 1 n bytes h) in
    let l = h.len in
    record {
      ranges = (h.fit 0, r.ranges);
      spelled = byte_split bytes (omega arith) ∙ ap (λ (ys : List ℕ). byte_at bytes ∷ ys) r.spelled;
    }

flag_split : (none one : Bool) (byte : ℕ) (flag : Bool) → (byte == 0) ≡ none → (byte == 1) ≡ one
    → (if none then Some false else if one then Some true else None) ≡ Some flag
    → byte ≡ flag_byte flag
flag_split true one byte true z o e = cc
flag_split true one byte false z o e = eqb-true byte 0 z
flag_split false true byte true z o e = eqb-true byte 1 o
flag_split false true byte false z o e = cc
flag_split false false byte flag z o e = cc

flag_means : (byte : ℕ) (flag : Bool) → flag_of byte ≡ Some flag → byte ≡ flag_byte flag
flag_means byte flag e = flag_split (byte == 0) (byte == 1) byte flag refl refl e

stands_flag : (n : ℕ) (bytes : List ℕ) (fields : List Field) (flag : Bool)
    → flag_at bytes ≡ Some flag → Sized (1 + n) bytes
    → (Sized n (drop 1 bytes) → Stands (drop 1 bytes) fields) → Stands bytes (Flag flag ∷ fields)
stands_flag n bytes fields flag e h rest =
    let r = rest (sized_drop 1 n bytes h) in
    let l = h.len in
    record {
      ranges = (tt, r.ranges);
      spelled = byte_split bytes (omega arith)
          ∙ (λ i. flag_means (byte_at bytes) flag e i ∷ r.spelled i);
    }

-- a record of that kind whose fields these bytes are
pub record IsFrom (kind : Kind) (bytes : List ℕ) (r : Record) : Type 0 where
  pub same_kind : kind_of r ≡ kind
  pub is_fixed : nat_lt 0 (fixed_size kind) ≡ true
  pub stands : Stands bytes (fields_of r)

from_same : (kind : Kind) (bytes : List ℕ) (x r : Record) → Some x ≡ Some r → IsFrom kind bytes x
    → IsFrom kind bytes r
from_same kind bytes x r e h = subst (λ (y : Record). IsFrom kind bytes y) (same_Some x r e) h

flag_case : (kind : Kind) (bytes : List ℕ) (o : Option Bool) (make : Bool → Record) (r : Record)
    → option_map make o ≡ Some r
    → ((flag : Bool) → o ≡ Some flag → IsFrom kind bytes (make flag)) → IsFrom kind bytes r
flag_case kind bytes None make r e h = cc
flag_case kind bytes (Some flag) make r e h = from_same kind bytes (make flag) r e (h flag refl)

pub fixed_back : (kind : Kind) (bytes : List ℕ) (r : Record) → Sized (fixed_size kind) bytes
    → fixed_record kind bytes ≡ Some r → IsFrom kind bytes r
fixed_back PlanMadeKind bytes r h e = cc
fixed_back MigrationStartedKind bytes r h e =
    from_same MigrationStartedKind bytes
    (MigrationStarted (word_at bytes) (word_at (drop 4 bytes)) (word_at (drop 4 (drop 4 bytes)))
    (word_at (drop 4 (drop 4 (drop 4 bytes))))) r e
    (record {
      same_kind = refl;
      is_fixed = refl;
      stands = stands_word 12 bytes
          (Word (word_at (drop 4 bytes)) ∷ Word (word_at (drop 4 (drop 4 bytes))) ∷ Word
          (word_at (drop 4 (drop 4 (drop 4 bytes)))) ∷ []) h
          (λ h. stands_word 8 (drop 4 bytes)
          (Word (word_at (drop 4 (drop 4 bytes))) ∷ Word
          (word_at (drop 4 (drop 4 (drop 4 bytes)))) ∷
          []) h (λ h. stands_word 4 (drop 4 (drop 4 bytes))
          (Word (word_at (drop 4 (drop 4 (drop 4 bytes)))) ∷ []) h
          (λ h. stands_word 0 (drop 4 (drop 4 (drop 4 bytes))) ([]) h
          (λ h. stands_end (drop 4 (drop 4 (drop 4 (drop 4 bytes)))) h))));
    })
fixed_back ChosenKind bytes r h e =
    from_same ChosenKind bytes
    (Chosen (word_at bytes) (byte_at (drop 4 bytes)) (long_at (drop 1 (drop 4 bytes)))) r e
    (record {
      same_kind = refl;
      is_fixed = refl;
      stands = stands_word 9 bytes
          (Byte (byte_at (drop 4 bytes)) ∷ Long (long_at (drop 1 (drop 4 bytes))) ∷ []) h
          (λ h. stands_byte 8 (drop 4 bytes) (Long (long_at (drop 1 (drop 4 bytes))) ∷ []) h
          (λ h. stands_long 0 (drop 1 (drop 4 bytes)) ([]) h
          (λ h. stands_end (drop 8 (drop 1 (drop 4 bytes))) h)));
    })
fixed_back SnapTakenKind bytes r h e =
    from_same SnapTakenKind bytes
    (SnapTaken (word_at bytes) (word_at (drop 4 bytes)) (long_at (drop 4 (drop 4 bytes)))) r e
    (record {
      same_kind = refl;
      is_fixed = refl;
      stands = stands_word 12 bytes
          (Word (word_at (drop 4 bytes)) ∷ Long (long_at (drop 4 (drop 4 bytes))) ∷ []) h
          (λ h. stands_word 8 (drop 4 bytes) (Long (long_at (drop 4 (drop 4 bytes))) ∷ []) h
          (λ h. stands_long 0 (drop 4 (drop 4 bytes)) ([]) h
          (λ h. stands_end (drop 8 (drop 4 (drop 4 bytes))) h)));
    })
fixed_back IdsStoredKind bytes r h e = cc
fixed_back VolumesMadeKind bytes r h e =
    from_same VolumesMadeKind bytes (VolumesMade (word_at bytes)) r e
    (record {
      same_kind = refl;
      is_fixed = refl;
      stands = stands_word 0 bytes ([]) h
          (λ h. stands_end (drop 4 bytes) h);
    })
fixed_back CheckpointAddedKind bytes r h e =
    flag_case CheckpointAddedKind bytes (flag_at (drop 4 (drop 4 (drop 4 bytes))))
    (λ flag. CheckpointAdded (word_at bytes) (word_at (drop 4 bytes))
    (word_at (drop 4 (drop 4 bytes))) flag) r e (λ flag o.
    record {
      same_kind = refl;
      is_fixed = refl;
      stands = stands_word 9 bytes
          (Word (word_at (drop 4 bytes)) ∷ Word (word_at (drop 4 (drop 4 bytes))) ∷ Flag flag ∷ [])
          h
          (λ h. stands_word 5 (drop 4 bytes)
          (Word (word_at (drop 4 (drop 4 bytes))) ∷ Flag flag ∷ [])
          h (λ h. stands_word 1 (drop 4 (drop 4 bytes)) (Flag flag ∷ []) h
          (λ h. stands_flag 0 (drop 4 (drop 4 (drop 4 bytes))) ([]) flag o h
          (λ h. stands_end (drop 1 (drop 4 (drop 4 (drop 4 bytes)))) h))));
    })
fixed_back StageBegunKind bytes r h e =
    from_same StageBegunKind bytes (StageBegun (word_at bytes) (word_at (drop 4 bytes))) r e
    (record {
      same_kind = refl;
      is_fixed = refl;
      stands = stands_word 4 bytes
          (Word (word_at (drop 4 bytes)) ∷ []) h
          (λ h. stands_word 0 (drop 4 bytes) ([]) h (λ h. stands_end (drop 4 (drop 4 bytes)) h));
    })
fixed_back StageDoneKind bytes r h e =
    from_same StageDoneKind bytes
    (StageDone (word_at bytes) (word_at (drop 4 bytes)) (long_at (drop 4 (drop 4 bytes)))) r e
    (record {
      same_kind = refl;
      is_fixed = refl;
      stands = stands_word 12 bytes
          (Word (word_at (drop 4 bytes)) ∷ Long (long_at (drop 4 (drop 4 bytes))) ∷ []) h
          (λ h. stands_word 8 (drop 4 bytes) (Long (long_at (drop 4 (drop 4 bytes))) ∷ []) h
          (λ h. stands_long 0 (drop 4 (drop 4 bytes)) ([]) h
          (λ h. stands_end (drop 8 (drop 4 (drop 4 bytes))) h)));
    })
fixed_back PausedKind bytes r h e =
    from_same PausedKind bytes (Paused (word_at bytes) (long_at (drop 4 bytes))) r e
    (record {
      same_kind = refl;
      is_fixed = refl;
      stands = stands_word 8 bytes
          (Long (long_at (drop 4 bytes)) ∷ []) h
          (λ h. stands_long 0 (drop 4 bytes) ([]) h (λ h. stands_end (drop 8 (drop 4 bytes)) h));
    })
fixed_back SnapRemovedKind bytes r h e =
    from_same SnapRemovedKind bytes (SnapRemoved (word_at bytes) (word_at (drop 4 bytes))) r e
    (record {
      same_kind = refl;
      is_fixed = refl;
      stands = stands_word 4 bytes
          (Word (word_at (drop 4 bytes)) ∷ []) h
          (λ h. stands_word 0 (drop 4 bytes) ([]) h (λ h. stands_end (drop 4 (drop 4 bytes)) h));
    })
fixed_back CutoverSetKind bytes r h e =
    flag_case CutoverSetKind bytes (flag_at (drop 4 bytes))
    (λ flag. CutoverSet (word_at bytes) flag (long_at (drop 1 (drop 4 bytes)))) r e (λ flag o.
    record {
      same_kind = refl;
      is_fixed = refl;
      stands = stands_word 9 bytes
          (Flag flag ∷ Long (long_at (drop 1 (drop 4 bytes))) ∷ []) h
          (λ h. stands_flag 8 (drop 4 bytes) (Long (long_at (drop 1 (drop 4 bytes))) ∷ []) flag o h
          (λ h. stands_long 0 (drop 1 (drop 4 bytes)) ([]) h
          (λ h. stands_end (drop 8 (drop 1 (drop 4 bytes))) h)));
    })
fixed_back PowerStoredKind bytes r h e =
    flag_case PowerStoredKind bytes (flag_at (drop 4 bytes))
    (λ flag. PowerStored (word_at bytes) flag) r e (λ flag o.
    record {
      same_kind = refl;
      is_fixed = refl;
      stands = stands_word 1 bytes (Flag flag ∷ []) h
          (λ h. stands_flag 0 (drop 4 bytes) ([]) flag o h
          (λ h. stands_end (drop 1 (drop 4 bytes)) h));
    })
fixed_back PoweredOffKind bytes r h e =
    from_same PoweredOffKind bytes (PoweredOff (word_at bytes)) r e
    (record {
      same_kind = refl;
      is_fixed = refl;
      stands = stands_word 0 bytes ([]) h
          (λ h. stands_end (drop 4 bytes) h);
    })
fixed_back OffSeenKind bytes r h e =
    flag_case OffSeenKind bytes (flag_at (drop 4 bytes)) (λ flag. OffSeen (word_at bytes) flag) r e
    (λ flag o.
    record {
      same_kind = refl;
      is_fixed = refl;
      stands = stands_word 1 bytes (Flag flag ∷ []) h
          (λ h. stands_flag 0 (drop 4 bytes) ([]) flag o h
          (λ h. stands_end (drop 1 (drop 4 bytes)) h));
    })
fixed_back FinalSnapTakenKind bytes r h e =
    from_same FinalSnapTakenKind bytes
    (FinalSnapTaken (word_at bytes) (word_at (drop 4 bytes)) (long_at (drop 4 (drop 4 bytes)))
    (long_at (drop 8 (drop 4 (drop 4 bytes))))) r e
    (record {
      same_kind = refl;
      is_fixed = refl;
      stands = stands_word 20 bytes
          (Word (word_at (drop 4 bytes)) ∷ Long (long_at (drop 4 (drop 4 bytes))) ∷ Long
          (long_at (drop 8 (drop 4 (drop 4 bytes)))) ∷ []) h
          (λ h. stands_word 16 (drop 4 bytes)
          (Long (long_at (drop 4 (drop 4 bytes))) ∷ Long
          (long_at (drop 8 (drop 4 (drop 4 bytes)))) ∷
          []) h (λ h. stands_long 8 (drop 4 (drop 4 bytes))
          (Long (long_at (drop 8 (drop 4 (drop 4 bytes)))) ∷ []) h
          (λ h. stands_long 0 (drop 8 (drop 4 (drop 4 bytes))) ([]) h
          (λ h. stands_end (drop 8 (drop 8 (drop 4 (drop 4 bytes)))) h))));
    })
fixed_back CancelAskedKind bytes r h e =
    from_same CancelAskedKind bytes (CancelAsked (word_at bytes)) r e
    (record {
      same_kind = refl;
      is_fixed = refl;
      stands = stands_word 0 bytes ([]) h
          (λ h. stands_end (drop 4 bytes) h);
    })
fixed_back EndedKind bytes r h e =
    from_same EndedKind bytes
    (Ended (word_at bytes) (byte_at (drop 4 bytes)) (long_at (drop 1 (drop 4 bytes)))) r e
    (record {
      same_kind = refl;
      is_fixed = refl;
      stands = stands_word 9 bytes
          (Byte (byte_at (drop 4 bytes)) ∷ Long (long_at (drop 1 (drop 4 bytes))) ∷ []) h
          (λ h. stands_byte 8 (drop 4 bytes) (Long (long_at (drop 1 (drop 4 bytes))) ∷ []) h
          (λ h. stands_long 0 (drop 1 (drop 4 bytes)) ([]) h
          (λ h. stands_end (drop 8 (drop 1 (drop 4 bytes))) h)));
    })

-- what is read of the bytes of a record
pub record IsRead (r : Record) : Type 0 where
  pub len : length (spelled_fields (fields_of r)) ≡ fixed_size (kind_of r)
  pub read : fixed_record (kind_of r) (spelled_fields (fields_of r)) ≡ Some r

no_size : false ≡ true → ⊥
no_size e = cc

pub fixed_forth : (r : Record) → nat_lt 0 (fixed_size (kind_of r)) ≡ true
    → AllByRecursion HasRange (fields_of r) → IsRead r
unfolding word_bytes long_bytes
fixed_forth (PlanMade plan name interval vms) fixed h = absurd (no_size fixed)
fixed_forth (MigrationStarted mig plan vm disks) fixed h =
    record {
      len = refl;
      read = λ i. Some
          (MigrationStarted (word_back mig
          (word_bytes plan ++ (word_bytes vm ++ (word_bytes disks ++ []))) h.0 i)
          (word_back plan (word_bytes vm ++ (word_bytes disks ++ [])) h.1.0 i)
          (word_back vm (word_bytes disks ++ []) h.1.1.0 i) (word_back disks [] h.1.1.1.0 i));
    }
fixed_forth (Chosen mig way at) fixed h =
    record {
      len = refl;
      read = λ i. Some
          (Chosen (word_back mig ((way ∷ []) ++ (long_bytes at ++ [])) h.0 i) way
          (long_back at [] h.1.1.0 i));
    }
fixed_forth (SnapTaken mig snap mark) fixed h =
    record {
      len = refl;
      read = λ i. Some
          (SnapTaken (word_back mig (word_bytes snap ++ (long_bytes mark ++ [])) h.0 i)
          (word_back snap (long_bytes mark ++ []) h.1.0 i) (long_back mark [] h.1.1.0 i));
    }
fixed_forth (IdsStored mig ids) fixed h = absurd (no_size fixed)
fixed_forth (VolumesMade mig) fixed h =
    record { len = refl; read = λ i. Some (VolumesMade (word_back mig [] h.0 i)) }
fixed_forth (CheckpointAdded mig previous current true) fixed h =
    record {
      len = refl;
      read = λ i. Some
          (CheckpointAdded (word_back mig
          (word_bytes previous ++ (word_bytes current ++ ((flag_byte true ∷ []) ++ []))) h.0 i)
          (word_back previous (word_bytes current ++ ((flag_byte true ∷ []) ++ [])) h.1.0 i)
          (word_back current ((flag_byte true ∷ []) ++ []) h.1.1.0 i) true);
    }
fixed_forth (CheckpointAdded mig previous current false) fixed h =
    record {
      len = refl;
      read = λ i. Some
          (CheckpointAdded (word_back mig
          (word_bytes previous ++ (word_bytes current ++ ((flag_byte false ∷ []) ++ []))) h.0 i)
          (word_back previous (word_bytes current ++ ((flag_byte false ∷ []) ++ [])) h.1.0 i)
          (word_back current ((flag_byte false ∷ []) ++ []) h.1.1.0 i) false);
    }
fixed_forth (StageBegun mig disk) fixed h =
    record {
      len = refl;
      read = λ i. Some
          (StageBegun (word_back mig (word_bytes disk ++ []) h.0 i) (word_back disk [] h.1.0 i));
    }
fixed_forth (StageDone mig disk written) fixed h =
    record {
      len = refl;
      read = λ i. Some
          (StageDone (word_back mig (word_bytes disk ++ (long_bytes written ++ [])) h.0 i)
          (word_back disk (long_bytes written ++ []) h.1.0 i) (long_back written [] h.1.1.0 i));
    }
fixed_forth (Paused mig at) fixed h =
    record {
      len = refl;
      read = λ i. Some
          (Paused (word_back mig (long_bytes at ++ []) h.0 i) (long_back at [] h.1.0 i));
    }
fixed_forth (SnapRemoved mig snap) fixed h =
    record {
      len = refl;
      read = λ i. Some
          (SnapRemoved (word_back mig (word_bytes snap ++ []) h.0 i) (word_back snap [] h.1.0 i));
    }
fixed_forth (CutoverSet plan true at) fixed h =
    record {
      len = refl;
      read = λ i. Some
          (CutoverSet (word_back plan ((flag_byte true ∷ []) ++ (long_bytes at ++ [])) h.0 i) true
          (long_back at [] h.1.1.0 i));
    }
fixed_forth (CutoverSet plan false at) fixed h =
    record {
      len = refl;
      read = λ i. Some
          (CutoverSet (word_back plan ((flag_byte false ∷ []) ++ (long_bytes at ++ [])) h.0 i) false
          (long_back at [] h.1.1.0 i));
    }
fixed_forth (PowerStored mig true) fixed h =
    record {
      len = refl;
      read = λ i. Some
          (PowerStored (word_back mig ((flag_byte true ∷ []) ++ []) h.0 i) true);
    }
fixed_forth (PowerStored mig false) fixed h =
    record {
      len = refl;
      read = λ i. Some
          (PowerStored (word_back mig ((flag_byte false ∷ []) ++ []) h.0 i) false);
    }
fixed_forth (PoweredOff mig) fixed h =
    record { len = refl; read = λ i. Some (PoweredOff (word_back mig [] h.0 i)) }
fixed_forth (OffSeen mig true) fixed h =
    record {
      len = refl;
      read = λ i. Some
          (OffSeen (word_back mig ((flag_byte true ∷ []) ++ []) h.0 i) true);
    }
fixed_forth (OffSeen mig false) fixed h =
    record {
      len = refl;
      read = λ i. Some
          (OffSeen (word_back mig ((flag_byte false ∷ []) ++ []) h.0 i) false);
    }
fixed_forth (FinalSnapTaken mig snap mark place) fixed h =
    record {
      len = refl;
      read = λ i. Some
          (FinalSnapTaken (word_back mig
          (word_bytes snap ++ (long_bytes mark ++ (long_bytes place ++ []))) h.0 i)
          (word_back snap (long_bytes mark ++ (long_bytes place ++ [])) h.1.0 i)
          (long_back mark (long_bytes place ++ []) h.1.1.0 i) (long_back place [] h.1.1.1.0 i));
    }
fixed_forth (CancelAsked mig) fixed h =
    record { len = refl; read = λ i. Some (CancelAsked (word_back mig [] h.0 i)) }
fixed_forth (Ended mig how place) fixed h =
    record {
      len = refl;
      read = λ i. Some
          (Ended (word_back mig ((how ∷ []) ++ (long_bytes place ++ [])) h.0 i) how
          (long_back place [] h.1.1.0 i));
    }

way_least : (way : ℕ) → nat_le way MAX_WAY ≡ true → way ≤ MAX_WAY
way_least way e = grind (arith, nat_tests)

way_forth : (way : ℕ) → way ≤ MAX_WAY → nat_le way MAX_WAY ≡ true
way_forth way e = grind (arith, nat_tests)

is_zero : (n : ℕ) → (n == 0) ≡ true → n ≡ 0
is_zero n e = grind (arith, nat_tests)

zero_is : (n : ℕ) → n ≡ 0 → (n == 0) ≡ true
zero_is n e = grind (arith, nat_tests)

has_back : (has : Bool) (at : ℕ) → (has || at == 0) ≡ true → has ≡ false → at ≡ 0
has_back true at e f = cc
has_back false at e f = is_zero at e

has_forth : (has : Bool) (at : ℕ) → (has ≡ false → at ≡ 0) → (has || at == 0) ≡ true
has_forth true at e = refl
has_forth false at e = zero_is at (e refl)

how_most : (how place : ℕ) → (nat_le how MAX_HOW && (how == 0 || place == 0)) ≡ true → how ≤ MAX_HOW
how_most how place e = grind (arith, nat_tests)

how_zero : (how place : ℕ) → (nat_le how MAX_HOW && (how == 0 || place == 0)) ≡ true → (how ≡ 0 → ⊥)
    → place ≡ 0
how_zero how place e n = grind (arith, nat_tests)

how_back : (how place : ℕ) → (nat_le how MAX_HOW && (how == 0 || place == 0)) ≡ true
    → (how ≤ MAX_HOW) × ((how ≡ 0 → ⊥) → place ≡ 0)
how_back how place e = (how_most how place e, how_zero how place e)

how_some : (how place : ℕ) → how ≤ MAX_HOW → place ≡ 0
    → (nat_le how MAX_HOW && (how == 0 || place == 0)) ≡ true
how_some how place h z = grind (arith, nat_tests)

how_forth : (how place : ℕ) → (how ≤ MAX_HOW) × ((how ≡ 0 → ⊥) → place ≡ 0)
    → (nat_le how MAX_HOW && (how == 0 || place == 0)) ≡ true
how_forth zero place h = refl
how_forth (suc how) place h =
    how_some (suc how) place h.0 (h.1 (λ e. let n : suc how ≡ 0 = e in absurd (omega arith)))

pub rule_back : (r : Record) → nat_lt 0 (fixed_size (kind_of r)) ≡ true → fixed_rule r ≡ true
    → KeepsRule r
rule_back (PlanMade plan name interval vms) fixed e = absurd (no_size fixed)
rule_back (Chosen mig way at) fixed e = way_least way e
rule_back (IdsStored mig ids) fixed e = absurd (no_size fixed)
rule_back (CutoverSet plan has at) fixed e = has_back has at e
rule_back (FinalSnapTaken mig snap mark place) fixed e = ltb-true place mark e
rule_back (Ended mig how place) fixed e = how_back how place e
rule_back _ fixed e = tt

pub rule_forth : (r : Record) → nat_lt 0 (fixed_size (kind_of r)) ≡ true → KeepsRule r
    → fixed_rule r ≡ true
rule_forth (PlanMade plan name interval vms) fixed e = absurd (no_size fixed)
rule_forth (Chosen mig way at) fixed e = way_forth way e
rule_forth (IdsStored mig ids) fixed e = absurd (no_size fixed)
rule_forth (CutoverSet plan has at) fixed e = has_forth has at e
rule_forth (FinalSnapTaken mig snap mark place) fixed e = lt-ltb place mark e
rule_forth (Ended mig how place) fixed e = how_forth how place e
rule_forth _ fixed e = refl

pub parse_some : (kind : Kind) (bytes : List ℕ) (r : Record) → length bytes ≡ fixed_size kind
    → fixed_record kind bytes ≡ Some r
    → fixed_rule r ≡ true → parse_fixed kind bytes ≡ Some r
parse_some kind bytes r len read rule =
    (λ i. if eq-eqb (length bytes) (fixed_size kind) len i then where_kept (read i) else None)
    ∙ (λ i. if rule i then Some r else None)

pub record IsParsed (kind : Kind) (bytes : List ℕ) (r : Record) : Type 0 where
  pub len : length bytes ≡ fixed_size kind
  pub read : fixed_record kind bytes ≡ Some r
  pub rule : fixed_rule r ≡ true

test_true : (t : Bool) (o : Option Record) (r : Record) → (if t then o else None) ≡ Some r
    → (t ≡ true) × (o ≡ Some r)
test_true true o r e = (refl, e)
test_true false o r e = cc

kept_is : (o : Option Record) (r : Record) → where_kept o ≡ Some r
    → (o ≡ Some r) × (fixed_rule r ≡ true)
kept_is None r e = cc
kept_is (Some x) r e =
    let t = test_true (fixed_rule x) (Some x) r e in
    (t.1, subst (λ (y : Record). fixed_rule y ≡ true) (same_Some x r t.1) t.0)

pub parse_back : (kind : Kind) (bytes : List ℕ) (r : Record) → parse_fixed kind bytes ≡ Some r
    → IsParsed kind bytes r
parse_back kind bytes r e =
    let t = test_true (length bytes == fixed_size kind) (where_kept (fixed_record kind bytes)) r e
    in
    let k = kept_is (fixed_record kind bytes) r t.1 in
    record { len = eqb-true (length bytes) (fixed_size kind) t.0; read = k.0; rule = k.1 }

pub head_same : (a b : ℕ) (xs ys : List ℕ) → a ∷ xs ≡ b ∷ ys → a ≡ b
head_same a b xs ys e = cc

pub tail_same : (a b : ℕ) (xs ys : List ℕ) → a ∷ xs ≡ b ∷ ys → xs ≡ ys
tail_same a b xs ys e = cc

pub fixed_spells : (kind : Kind) (bytes : List ℕ) (r : Record) → IsBytes bytes
    → parse_fixed kind bytes ≡ Some r
    → Spells (kind_byte kind ∷ bytes) r
fixed_spells kind bytes r fit e =
    let parsed = parse_back kind bytes r e in
    let from = fixed_back kind bytes r (record { len = parsed.len; fit = fit }) parsed.read in
    let fixed : nat_lt 0 (fixed_size (kind_of r)) ≡ true =
    ap (λ (k : Kind). nat_lt 0 (fixed_size k)) from.same_kind ∙ from.is_fixed in
    record {
      record_has = record { ranges = from.stands.ranges; rule = rule_back r fixed parsed.rule };
      spelled = λ i. kind_byte (sym from.same_kind i) ∷ from.stands.spelled i;
    }

pub fixed_only : (kind : Kind) (bytes : List ℕ) → nat_lt 0 (fixed_size kind) ≡ true
    → parse_fixed kind bytes ≡ None
    → (r : Record) → Spells (kind_byte kind ∷ bytes) r → ⊥
fixed_only kind bytes fixed none r spells =
    let same : kind ≡ kind_of r =
    kinds_differ kind (kind_of r)
    (head_same (kind_byte kind) (kind_byte (kind_of r)) bytes (spelled_fields (fields_of r))
    spells.spelled) in
    let rest : bytes ≡ spelled_fields (fields_of r) =
    tail_same (kind_byte kind) (kind_byte (kind_of r)) bytes (spelled_fields (fields_of r))
    spells.spelled in
    let fixed' : nat_lt 0 (fixed_size (kind_of r)) ≡ true =
    ap (λ (k : Kind). nat_lt 0 (fixed_size k)) (sym same) ∙ fixed in
    let read = fixed_forth r fixed' spells.record_has.ranges in
    let parsed : parse_fixed (kind_of r) (spelled_fields (fields_of r)) ≡ Some r =
    parse_some (kind_of r) (spelled_fields (fields_of r)) r read.len read.read
    (rule_forth r fixed' spells.record_has.rule) in
    none-some r (sym none ∙ (λ i. parse_fixed (same i) (rest i)) ∙ parsed)
