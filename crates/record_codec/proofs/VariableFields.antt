-- Plans and identifiers: what stands in bytes that meet the needs, and that the bytes of such a
-- record meet them.
use Rattle.std.proofs.Common.{◌≡◌, ℕ, zero, suc, ◌+◌, ◌-◌, ◌*◌, ◌^◌, ◌<◌, ◌≤◌, true, false, List, [], ◌∷◌, ◌++◌, length, take, drop, Option, Some, Ok, Err, refl, sym, ap, ◌∙◌, subst, arith, append_assoc, append-nil, length-append, eq-eqb}
use lib.Seq.{take-append_seam, drop-append_seam}
use Rattle.std.specs.Prelude.{slice_index, ◌==◌}
use Rattle.std.specs.List.{AllByRecursion}
use Rattle.std.proofs.lemmas.Option.{same_Some}
use Rattle.std.proofs.lemmas.List.{length-drop, length-take-le, take-append-drop}
use Rattle.basics.specs.Spelled.{IsName}
use Rattle.change_id.specs.declared.ChangeId.{ChangeId}
use Rattle.change_id.specs.ChangeId.{IdHasRange}
use Rattle.record_codec.specs.declared.record.Record.{Record}
use Rattle.record_codec.specs.declared.record.Record.TheVariants.{PlanMade, MigrationStarted, Chosen, SnapTaken, IdsStored, VolumesMade, CheckpointAdded, StageBegun, StageDone, Paused, SnapRemoved, CutoverSet, PowerStored, PoweredOff, OffSeen, FinalSnapTaken, CancelAsked, Ended}
use Rattle.record_codec.specs.Record.{word_bytes, long_bytes, uuid_bytes, id_bytes, all_word_bytes, all_id_bytes, IsPlan, kind_of, kind_byte, fields_of, HasSpelling, spelled_fields, spelling, Spells}
use Rattle.record_codec.specs.Parse.{word_at, long_at, uuid_at, id_at, words_in, ids_in, behind_name_len, name_len, plan_name, behind_name, plan_interval, plan_count, plan_vms, plan_at, PlanNeeds, ids_count, ids_row, ids_at, IdsNeed, fixed_record}
use Rattle.record_codec.proofs.Numbers.{IsBytes, drop_bytes, word_split, long_split, uuid_split, word_fits, long_fits, uuid_fits, word_back, long_back, uuid_back, length-word_bytes, length-long_bytes, length-uuid_bytes, word_rest, long_rest, uuid_rest}
use Rattle.record_codec.proofs.Pieces.{length-concat}
use Rattle.record_codec.specs.declared.record.Kind.{Kind}
use Rattle.record_codec.specs.declared.record.Kind.TheVariants.{PlanMade as PlanMadeKind, MigrationStarted as MigrationStartedKind, Chosen as ChosenKind, SnapTaken as SnapTakenKind, IdsStored as IdsStoredKind, VolumesMade as VolumesMadeKind, CheckpointAdded as CheckpointAddedKind, StageBegun as StageBegunKind, StageDone as StageDoneKind, Paused as PausedKind, SnapRemoved as SnapRemovedKind, CutoverSet as CutoverSetKind, PowerStored as PowerStoredKind, PoweredOff as PoweredOffKind, OffSeen as OffSeenKind, FinalSnapTaken as FinalSnapTakenKind, CancelAsked as CancelAskedKind, Ended as EndedKind}
use Rattle.record_codec.specs.declared.parse.CodecRefused.TheVariants.{Bad, NoMemory}
use Rattle.record_codec.specs.Laws.{SpellingsDiffer, SpelledIsRead}
use Rattle.record_codec.proofs.FixedFields.{byte_split, fixed_forth, tail_same, head_same}
use Rattle.record_codec.proofs.KindBytes.{kinds_differ}

apart : (m n : ℕ) → (m == n) ≡ false → m ≡ n → ⊥
apart m n t e = let no : false ≡ true = sym t ∙ eq-eqb m n e in cc

-- rows of numbers
row_of_words : (count : ℕ) (bytes : List ℕ) → length bytes ≡ 4 * count → IsBytes bytes
    → all_word_bytes (words_in count bytes) ≡ bytes
row_of_words zero [] len fit = refl
row_of_words zero (b ∷ bytes) len fit = absurd (omega arith)
row_of_words (suc count) bytes len fit =
    ap (λ (ys : List ℕ). word_bytes (word_at bytes) ++ ys)
    (row_of_words count (drop 4 bytes) (length-drop 4 bytes ∙ omega arith) (drop_bytes 4 bytes fit))
    ∙ sym (word_split bytes (omega arith) fit)

words_fit : (count : ℕ) (bytes : List ℕ) → IsBytes bytes
    → AllByRecursion (λ n. n < 2 ^ 32) (words_in count bytes)
words_fit zero bytes fit = tt
words_fit (suc count) bytes fit =
    (word_fits bytes fit, words_fit count (drop 4 bytes) (drop_bytes 4 bytes fit))

length-words_in : (count : ℕ) (bytes : List ℕ) → length (words_in count bytes) ≡ count
length-words_in zero bytes = refl
length-words_in (suc count) bytes = let e = length-words_in count (drop 4 bytes) in omega arith

-- rows of identifiers
id_split : (bytes : List ℕ) → 24 ≤ length bytes → IsBytes bytes
    → bytes ≡ id_bytes (id_at bytes) ++ drop 8 (drop 16 bytes)
id_split bytes len fit =
    let left : 8 ≤ length (drop 16 bytes) = omega (arith, length-drop 16 bytes) in
    uuid_split bytes (omega arith) fit
    ∙ ap (λ (ys : List ℕ). uuid_bytes (uuid_at bytes) ++ ys)
    (long_split (drop 16 bytes) left (drop_bytes 16 bytes fit))
    ∙ sym (append_assoc (uuid_bytes (uuid_at bytes)) (long_bytes (long_at (drop 16 bytes)))
    (drop 8 (drop 16 bytes)))

row_of_ids : (count : ℕ) (bytes : List ℕ) → length bytes ≡ 24 * count → IsBytes bytes
    → all_id_bytes (ids_in count bytes) ≡ bytes
row_of_ids zero [] len fit = refl
row_of_ids zero (b ∷ bytes) len fit = absurd (omega arith)
row_of_ids (suc count) bytes len fit =
    ap (λ (ys : List ℕ). id_bytes (id_at bytes) ++ ys)
    (row_of_ids count (drop 8 (drop 16 bytes))
    (omega (arith, length-drop 8 (drop 16 bytes), length-drop 16 bytes))
    (drop_bytes 8 (drop 16 bytes) (drop_bytes 16 bytes fit)))
    ∙ sym (id_split bytes (omega arith) fit)

ids_fit : (count : ℕ) (bytes : List ℕ) → IsBytes bytes
    → AllByRecursion IdHasRange (ids_in count bytes)
ids_fit zero bytes fit = tt
ids_fit (suc count) bytes fit = (
  record {
    uuid_fits = uuid_fits bytes fit;
    seq_fits = long_fits (drop 16 bytes)
        (drop_bytes 16 bytes fit);
  },
  ids_fit count (drop 8 (drop 16 bytes)) (drop_bytes 8 (drop 16 bytes) (drop_bytes 16 bytes fit)),
)

length-ids_in : (count : ℕ) (bytes : List ℕ) → length (ids_in count bytes) ≡ count
length-ids_in zero bytes = refl
length-ids_in (suc count) bytes = let e = length-ids_in count (drop 8 (drop 16 bytes)) in
    omega arith

pub length-id_bytes : (id : ChangeId) → length (id_bytes id) ≡ 24
length-id_bytes id =
    length-append (uuid_bytes id.uuid) (long_bytes id.seq)
    ∙ (let u = length-uuid_bytes id.uuid in let l = length-long_bytes id.seq in omega arith)

-- bytes that meet the needs of a snapshot's identifiers
pub ids_spell : (bytes : List ℕ) → IsBytes bytes → IdsNeed bytes → Spells (5 ∷ bytes) (ids_at bytes)
ids_spell bytes fit needs =
    let row = ids_row bytes in
    let count = ids_count bytes in
    let ids = ids_in count row in
    let begun = needs.begun in
    let behind_fit : IsBytes (drop 4 bytes) = drop_bytes 4 bytes fit in
    let row_fit : IsBytes row = drop_bytes 4 (drop 4 bytes) behind_fit in
    let len : length ids ≡ count = length-ids_in count row in
    let count_fits : count < 2 ^ 32 = word_fits (drop 4 bytes) behind_fit in
    let items : all_id_bytes ids ≡ row = row_of_ids count row needs.counted row_fit in
    let left : 4 ≤ length (drop 4 bytes) = omega (arith, length-drop 4 bytes) in
    let list : drop 4 bytes ≡ (word_bytes (length ids) ++ all_id_bytes ids) ++ [] =
    word_split (drop 4 bytes) left behind_fit ∙ (λ i. word_bytes (sym len i) ++ sym items i)
    ∙ sym (append-nil _) in
    record {
      record_has = record {
        ranges = (word_fits bytes fit, (ids_fit count row row_fit, tt));
        rule =
            omega arith;
      };
      spelled = ap (λ (ys : List ℕ). 5 ∷ ys) (word_split bytes (omega arith) fit
          ∙ ap (λ (ys : List ℕ). word_bytes (word_at bytes) ++ ys) list);
    }

-- bytes that meet the needs of a plan
pub plan_spells : (bytes : List ℕ) → IsBytes bytes → PlanNeeds bytes
    → Spells (1 ∷ bytes) (plan_at bytes)
plan_spells bytes fit needs =
    let begun = needs.begun in
    let whole = needs.whole in
    let named = needs.named in
    let least = needs.least in
    let most = needs.most in
    let text = plan_name bytes in
    let rest = behind_name bytes in
    let count = plan_count bytes in
    let row = plan_vms bytes in
    let vms = words_in count row in
    let fit4 : IsBytes (drop 4 bytes) = drop_bytes 4 bytes fit in
    let fit5 : IsBytes (behind_name_len bytes) = drop_bytes 1 (drop 4 bytes) fit4 in
    let rest_fit : IsBytes rest = drop_bytes (name_len bytes) (behind_name_len bytes) fit5 in
    let count_fit : IsBytes (drop 4 rest) = drop_bytes 4 rest rest_fit in
    let row_fit : IsBytes row = drop_bytes 4 (drop 4 rest) count_fit in
    let l4 = length-drop 4 bytes in
    let name_length : length text ≡ name_len bytes =
    length-take-le (name_len bytes) (behind_name_len bytes) (omega arith) in
    let rest_len : length rest ≡ length (behind_name_len bytes) - name_len bytes =
    length-drop (name_len bytes) (behind_name_len bytes) in
    let len : length vms ≡ count = length-words_in count row in
    let count_fits : count < 2 ^ 32 = word_fits (drop 4 rest) count_fit in
    let items : all_word_bytes vms ≡ row = row_of_words count row needs.counted row_fit in
    let l8 = length-drop 4 rest in
    let list : drop 4 rest ≡ (word_bytes (length vms) ++ all_word_bytes vms) ++ [] =
    word_split (drop 4 rest) (omega arith) count_fit ∙ (λ i. word_bytes (sym len i) ++ sym items i)
    ∙ sym (append-nil _) in
    let interval : rest ≡ word_bytes (plan_interval bytes) ++
    ((word_bytes (length vms) ++ all_word_bytes vms) ++ []) =
    word_split rest (omega arith) rest_fit
    ∙ ap (λ (ys : List ℕ). word_bytes (plan_interval bytes) ++ ys) list in
    let behind : behind_name_len bytes ≡ text ++ rest =
    sym (take-append-drop (name_len bytes) (behind_name_len bytes)) in
    let name : drop 4 bytes
    ≡ length text ∷ (text ++
    (word_bytes (plan_interval bytes) ++
    ((word_bytes (length vms) ++ all_word_bytes vms) ++ []))) =
    byte_split (drop 4 bytes) (omega arith)
    ∙ (λ i. sym name_length i ∷ behind i)
    ∙ ap (λ (ys : List ℕ). length text ∷ (text ++ ys)) interval in
    record {
      record_has = record {
        ranges = (
          word_fits bytes fit,
          (tt, (word_fits rest rest_fit, (words_fit count row row_fit, tt))),
        );
        rule = record { named = named; least = least; most = most; few = omega arith };
      };
      spelled = ap (λ (ys : List ℕ). 1 ∷ ys) (word_split bytes (omega arith) fit
          ∙ ap (λ (ys : List ℕ). word_bytes (word_at bytes) ++ ys) name);
    }

-- what is behind a name, in the bytes of a plan
unfoldable pub plan_tail : (interval : ℕ) (vms : List ℕ) → List ℕ
plan_tail interval vms =
    word_bytes interval ++ ((word_bytes (length vms) ++ all_word_bytes vms) ++ [])

-- the needs, of the parts that stand there
plan_needs_of : (bytes name rest : List ℕ) (interval : ℕ) (vms : List ℕ) → IsPlan name interval vms
    → interval < 2 ^ 32
    → drop 4 bytes ≡ length name ∷ (name ++ plan_tail interval vms) → 4 ≤ length bytes
    → PlanNeeds bytes
unfolding plan_tail word_bytes
plan_needs_of bytes name rest interval vms owes range e len =
    let named = owes.named in
    let least = owes.least in
    let most = owes.most in
    let few = owes.few in
    let tail = plan_tail interval vms in
    let nl : name_len bytes ≡ length name = ap (λ (ys : List ℕ). slice_index ys 0) e in
    let behind : behind_name_len bytes ≡ name ++ tail = ap (λ (ys : List ℕ). drop 1 ys) e in
    let text : plan_name bytes ≡ name =
    (λ i. take (nl i) (behind i)) ∙ take-append_seam name tail in
    let left : behind_name bytes ≡ tail =
    (λ i. drop (nl i) (behind i)) ∙ drop-append_seam name tail in
    let every : plan_interval bytes ≡ interval =
    ap (λ (ys : List ℕ). word_at ys) left
    ∙ word_back interval ((word_bytes (length vms) ++ all_word_bytes vms) ++ []) range in
    let count : plan_count bytes ≡ length vms =
    ap (λ (ys : List ℕ). word_at (drop 4 ys)) left
    ∙ word_back (length vms) (all_word_bytes vms ++ []) few in
    let row : plan_vms bytes ≡ all_word_bytes vms =
    ap (λ (ys : List ℕ). drop 4 (drop 4 ys)) left ∙ append-nil (all_word_bytes vms) in
    let row_len : length (plan_vms bytes) ≡ 4 * length vms =
    ap (λ (ys : List ℕ). length ys) row ∙ length-concat word_bytes 4 length-word_bytes vms in
    let d = length-drop 4 bytes in
    let whole_len : length (drop 4 bytes) ≡ 1 + length (name ++ tail) =
    ap (λ (ys : List ℕ). length ys) e ∙ omega arith in
    let back_len : length (behind_name_len bytes) ≡ length name + length tail =
    ap (λ (ys : List ℕ). length ys) behind ∙ length-append name tail in
    let tail_len : 8 ≤ length tail = omega arith in
    record {
      begun = omega arith;
      whole = omega arith;
      named = subst (λ (ys : List ℕ). IsName ys) (sym text) named;
      least = omega arith;
      most = omega arith;
      counted = row_len ∙ ap (λ (n : ℕ). 4 * n) (sym count);
    }

plan_shape : (bytes : List ℕ) (plan : ℕ) (name : List ℕ) (interval : ℕ) (vms : List ℕ)
    → 1 ∷ bytes ≡ spelling (PlanMade plan name interval vms)
    → bytes ≡ word_bytes plan ++ (length name ∷ (name ++ plan_tail interval vms))
unfolding plan_tail
plan_shape bytes plan name interval vms e =
    tail_same 1 1 bytes (spelled_fields (fields_of (PlanMade plan name interval vms))) e

ids_needs_of : (bytes : List ℕ) (ids : List ChangeId) → length ids < 2 ^ 32
    → drop 4 bytes ≡ (word_bytes (length ids) ++ all_id_bytes ids) ++ [] → 4 ≤ length bytes
    → IdsNeed bytes
unfolding word_bytes
ids_needs_of bytes ids few e len =
    let count : ids_count bytes ≡ length ids =
    ap (λ (ys : List ℕ). word_at ys) e ∙ word_back (length ids) (all_id_bytes ids ++ []) few in
    let row : ids_row bytes ≡ all_id_bytes ids =
    ap (λ (ys : List ℕ). drop 4 ys) e ∙ append-nil (all_id_bytes ids) in
    let row_len : length (ids_row bytes) ≡ 24 * length ids =
    ap (λ (ys : List ℕ). length ys) row ∙ length-concat id_bytes 24 length-id_bytes ids in
    let d = length-drop 4 bytes in
    let whole_len : length (drop 4 bytes) ≡ 4 + length (all_id_bytes ids ++ []) =
    ap (λ (ys : List ℕ). length ys) e ∙ omega arith in
    record { begun = omega arith; counted = row_len ∙ ap (λ (n : ℕ). 24 * n) (sym count) }

pub ids_only : (bytes : List ℕ) (r : Record) → Spells (5 ∷ bytes) r → IdsNeed bytes
ids_only bytes (PlanMade plan name interval vms) h =
    absurd (apart 5 1 refl
    (head_same 5 1 bytes (spelled_fields (fields_of (PlanMade plan name interval vms))) h.spelled))
ids_only bytes (MigrationStarted mig plan vm disks) h =
    absurd (apart 5 2 refl
    (head_same 5 2 bytes (spelled_fields (fields_of (MigrationStarted mig plan vm disks)))
    h.spelled))
ids_only bytes (Chosen mig way at) h =
    absurd (apart 5 3 refl
    (head_same 5 3 bytes (spelled_fields (fields_of (Chosen mig way at))) h.spelled))
ids_only bytes (SnapTaken mig snap mark) h =
    absurd (apart 5 4 refl
    (head_same 5 4 bytes (spelled_fields (fields_of (SnapTaken mig snap mark))) h.spelled))
ids_only bytes (VolumesMade mig) h =
    absurd (apart 5 6 refl
    (head_same 5 6 bytes (spelled_fields (fields_of (VolumesMade mig))) h.spelled))
ids_only bytes (CheckpointAdded mig previous current last) h =
    absurd (apart 5 7 refl
    (head_same 5 7 bytes (spelled_fields (fields_of (CheckpointAdded mig previous current last)))
    h.spelled))
ids_only bytes (StageBegun mig disk) h =
    absurd (apart 5 8 refl
    (head_same 5 8 bytes (spelled_fields (fields_of (StageBegun mig disk))) h.spelled))
ids_only bytes (StageDone mig disk written) h =
    absurd (apart 5 9 refl
    (head_same 5 9 bytes (spelled_fields (fields_of (StageDone mig disk written))) h.spelled))
ids_only bytes (Paused mig at) h =
    absurd (apart 5 10 refl
    (head_same 5 10 bytes (spelled_fields (fields_of (Paused mig at))) h.spelled))
ids_only bytes (SnapRemoved mig snap) h =
    absurd (apart 5 11 refl
    (head_same 5 11 bytes (spelled_fields (fields_of (SnapRemoved mig snap))) h.spelled))
ids_only bytes (CutoverSet plan has at) h =
    absurd (apart 5 12 refl
    (head_same 5 12 bytes (spelled_fields (fields_of (CutoverSet plan has at))) h.spelled))
ids_only bytes (PowerStored mig on) h =
    absurd (apart 5 13 refl
    (head_same 5 13 bytes (spelled_fields (fields_of (PowerStored mig on))) h.spelled))
ids_only bytes (PoweredOff mig) h =
    absurd (apart 5 14 refl
    (head_same 5 14 bytes (spelled_fields (fields_of (PoweredOff mig))) h.spelled))
ids_only bytes (OffSeen mig off) h =
    absurd (apart 5 15 refl
    (head_same 5 15 bytes (spelled_fields (fields_of (OffSeen mig off))) h.spelled))
ids_only bytes (FinalSnapTaken mig snap mark place) h =
    absurd (apart 5 16 refl
    (head_same 5 16 bytes (spelled_fields (fields_of (FinalSnapTaken mig snap mark place)))
    h.spelled))
ids_only bytes (CancelAsked mig) h =
    absurd (apart 5 17 refl
    (head_same 5 17 bytes (spelled_fields (fields_of (CancelAsked mig))) h.spelled))
ids_only bytes (Ended mig how place) h =
    absurd (apart 5 18 refl
    (head_same 5 18 bytes (spelled_fields (fields_of (Ended mig how place))) h.spelled))
ids_only bytes (IdsStored mig ids) h =
    let rest : List ℕ = (word_bytes (length ids) ++ all_id_bytes ids) ++ [] in
    let e : bytes ≡ word_bytes mig ++ rest =
    tail_same 5 5 bytes (spelled_fields (fields_of (IdsStored mig ids))) h.spelled in
    let len : length bytes ≡ length (word_bytes mig) + length rest =
    ap (λ (ys : List ℕ). length ys) e ∙ length-append (word_bytes mig) rest in
    let four = length-word_bytes mig in
    ids_needs_of bytes ids h.record_has.rule (ap (λ (ys : List ℕ). drop 4 ys) e
    ∙ word_rest mig rest) (omega arith)

pub plan_only : (bytes : List ℕ) (r : Record) → Spells (1 ∷ bytes) r → PlanNeeds bytes
plan_only bytes (MigrationStarted mig plan vm disks) h =
    absurd (apart 1 2 refl
    (head_same 1 2 bytes (spelled_fields (fields_of (MigrationStarted mig plan vm disks)))
    h.spelled))
plan_only bytes (Chosen mig way at) h =
    absurd (apart 1 3 refl
    (head_same 1 3 bytes (spelled_fields (fields_of (Chosen mig way at))) h.spelled))
plan_only bytes (SnapTaken mig snap mark) h =
    absurd (apart 1 4 refl
    (head_same 1 4 bytes (spelled_fields (fields_of (SnapTaken mig snap mark))) h.spelled))
plan_only bytes (IdsStored mig ids) h =
    absurd (apart 1 5 refl
    (head_same 1 5 bytes (spelled_fields (fields_of (IdsStored mig ids))) h.spelled))
plan_only bytes (VolumesMade mig) h =
    absurd (apart 1 6 refl
    (head_same 1 6 bytes (spelled_fields (fields_of (VolumesMade mig))) h.spelled))
plan_only bytes (CheckpointAdded mig previous current last) h =
    absurd (apart 1 7 refl
    (head_same 1 7 bytes (spelled_fields (fields_of (CheckpointAdded mig previous current last)))
    h.spelled))
plan_only bytes (StageBegun mig disk) h =
    absurd (apart 1 8 refl
    (head_same 1 8 bytes (spelled_fields (fields_of (StageBegun mig disk))) h.spelled))
plan_only bytes (StageDone mig disk written) h =
    absurd (apart 1 9 refl
    (head_same 1 9 bytes (spelled_fields (fields_of (StageDone mig disk written))) h.spelled))
plan_only bytes (Paused mig at) h =
    absurd (apart 1 10 refl
    (head_same 1 10 bytes (spelled_fields (fields_of (Paused mig at))) h.spelled))
plan_only bytes (SnapRemoved mig snap) h =
    absurd (apart 1 11 refl
    (head_same 1 11 bytes (spelled_fields (fields_of (SnapRemoved mig snap))) h.spelled))
plan_only bytes (CutoverSet plan has at) h =
    absurd (apart 1 12 refl
    (head_same 1 12 bytes (spelled_fields (fields_of (CutoverSet plan has at))) h.spelled))
plan_only bytes (PowerStored mig on) h =
    absurd (apart 1 13 refl
    (head_same 1 13 bytes (spelled_fields (fields_of (PowerStored mig on))) h.spelled))
plan_only bytes (PoweredOff mig) h =
    absurd (apart 1 14 refl
    (head_same 1 14 bytes (spelled_fields (fields_of (PoweredOff mig))) h.spelled))
plan_only bytes (OffSeen mig off) h =
    absurd (apart 1 15 refl
    (head_same 1 15 bytes (spelled_fields (fields_of (OffSeen mig off))) h.spelled))
plan_only bytes (FinalSnapTaken mig snap mark place) h =
    absurd (apart 1 16 refl
    (head_same 1 16 bytes (spelled_fields (fields_of (FinalSnapTaken mig snap mark place)))
    h.spelled))
plan_only bytes (CancelAsked mig) h =
    absurd (apart 1 17 refl
    (head_same 1 17 bytes (spelled_fields (fields_of (CancelAsked mig))) h.spelled))
plan_only bytes (Ended mig how place) h =
    absurd (apart 1 18 refl
    (head_same 1 18 bytes (spelled_fields (fields_of (Ended mig how place))) h.spelled))
plan_only bytes (PlanMade plan name interval vms) h =
    let rest : List ℕ = length name ∷ (name ++ plan_tail interval vms) in
    let e : bytes ≡ word_bytes plan ++ rest = plan_shape bytes plan name interval vms h.spelled in
    let len : length bytes ≡ length (word_bytes plan) + length rest =
    ap (λ (ys : List ℕ). length ys) e ∙ length-append (word_bytes plan) rest in
    let four = length-word_bytes plan in
    plan_needs_of bytes name rest interval vms h.record_has.rule h.record_has.ranges.1.1.0
    (ap (λ (ys : List ℕ). drop 4 ys) e ∙ word_rest plan rest) (omega arith)

-- what is read of a row is what was written there
words_back : (numbers : List ℕ) → AllByRecursion (λ n. n < 2 ^ 32) numbers
    → words_in (length numbers) (all_word_bytes numbers) ≡ numbers
words_back [] h = refl
words_back (n ∷ numbers) h =
    (λ i. word_back n (all_word_bytes numbers) h.0 i ∷ words_in (length numbers)
    (word_rest n (all_word_bytes numbers) i))
    ∙ ap (λ (xs : List ℕ). n ∷ xs) (words_back numbers h.1)

id_back : (id : ChangeId) (rest : List ℕ) → IdHasRange id → id_at (id_bytes id ++ rest) ≡ id
id_back id rest h =
    let whole : id_bytes id ++ rest ≡ uuid_bytes id.uuid ++ (long_bytes id.seq ++ rest) =
    append_assoc (uuid_bytes id.uuid) (long_bytes id.seq) rest in
    let uuid : uuid_at (id_bytes id ++ rest) ≡ id.uuid =
    ap (λ (ys : List ℕ). uuid_at ys) whole
    ∙ uuid_back id.uuid (long_bytes id.seq ++ rest) h.uuid_fits in
    let behind : drop 16 (id_bytes id ++ rest) ≡ long_bytes id.seq ++ rest =
    ap (λ (ys : List ℕ). drop 16 ys) whole ∙ uuid_rest id.uuid (long_bytes id.seq ++ rest) in
    let seq : long_at (drop 16 (id_bytes id ++ rest)) ≡ id.seq =
    ap (λ (ys : List ℕ). long_at ys) behind ∙ long_back id.seq rest h.seq_fits in
    λ i. record { uuid = uuid i; seq = seq i }

id_rest : (id : ChangeId) (rest : List ℕ) → drop 8 (drop 16 (id_bytes id ++ rest)) ≡ rest
id_rest id rest =
    ap (λ (ys : List ℕ). drop 8 (drop 16 ys))
    (append_assoc (uuid_bytes id.uuid) (long_bytes id.seq) rest)
    ∙ ap (λ (ys : List ℕ). drop 8 ys) (uuid_rest id.uuid (long_bytes id.seq ++ rest))
    ∙ long_rest id.seq rest

ids_back : (ids : List ChangeId) → AllByRecursion IdHasRange ids
    → ids_in (length ids) (all_id_bytes ids) ≡ ids
ids_back [] h = refl
ids_back (id ∷ ids) h =
    (λ i. id_back id (all_id_bytes ids) h.0 i ∷ ids_in (length ids)
    (id_rest id (all_id_bytes ids) i))
    ∙ ap (λ (xs : List ChangeId). id ∷ xs) (ids_back ids h.1)

pub plan_read : (bytes : List ℕ) (plan : ℕ) (name : List ℕ) (interval : ℕ) (vms : List ℕ)
    → HasSpelling (PlanMade plan name interval vms)
    → bytes ≡ word_bytes plan ++ (length name ∷ (name ++ plan_tail interval vms))
    → plan_at bytes ≡ PlanMade plan name interval vms
unfolding plan_tail word_bytes
plan_read bytes plan name interval vms has e =
    let ranges = has.ranges in
    let few = has.rule.few in
    let tail = plan_tail interval vms in
    let four : drop 4 bytes ≡ length name ∷ (name ++ tail) = ap (λ (ys : List ℕ). drop 4 ys) e in
    let nl : name_len bytes ≡ length name = ap (λ (ys : List ℕ). slice_index ys 0) four in
    let behind : behind_name_len bytes ≡ name ++ tail = ap (λ (ys : List ℕ). drop 1 ys) four in
    let text : plan_name bytes ≡ name =
    (λ i. take (nl i) (behind i)) ∙ take-append_seam name tail in
    let left : behind_name bytes ≡ tail =
    (λ i. drop (nl i) (behind i)) ∙ drop-append_seam name tail in
    let every : plan_interval bytes ≡ interval =
    ap (λ (ys : List ℕ). word_at ys) left
    ∙ word_back interval ((word_bytes (length vms) ++ all_word_bytes vms) ++ []) ranges.1.1.0 in
    let count : plan_count bytes ≡ length vms =
    ap (λ (ys : List ℕ). word_at (drop 4 ys)) left
    ∙ word_back (length vms) (all_word_bytes vms ++ []) few in
    let row : plan_vms bytes ≡ all_word_bytes vms =
    ap (λ (ys : List ℕ). drop 4 (drop 4 ys)) left ∙ append-nil (all_word_bytes vms) in
    let number : word_at bytes ≡ plan =
    ap (λ (ys : List ℕ). word_at ys) e
    ∙ word_back plan (length name ∷ (name ++ tail)) ranges.0 in
    let machines : words_in (plan_count bytes) (plan_vms bytes) ≡ vms =
    (λ i. words_in (count i) (row i)) ∙ words_back vms ranges.1.1.1.0 in
    λ i. PlanMade (number i) (text i) (every i) (machines i)

pub ids_read : (bytes : List ℕ) (mig : ℕ) (ids : List ChangeId) → HasSpelling (IdsStored mig ids)
    → bytes ≡ word_bytes mig ++ ((word_bytes (length ids) ++ all_id_bytes ids) ++ [])
    → ids_at bytes ≡ IdsStored mig ids
unfolding word_bytes
ids_read bytes mig ids has e =
    let ranges = has.ranges in
    let number : word_at bytes ≡ mig =
    ap (λ (ys : List ℕ). word_at ys) e
    ∙ word_back mig ((word_bytes (length ids) ++ all_id_bytes ids) ++ []) ranges.0 in
    let count : ids_count bytes ≡ length ids =
    ap (λ (ys : List ℕ). word_at (drop 4 ys)) e
    ∙ word_back (length ids) (all_id_bytes ids ++ []) has.rule in
    let row : ids_row bytes ≡ all_id_bytes ids =
    ap (λ (ys : List ℕ). drop 4 (drop 4 ys)) e ∙ append-nil (all_id_bytes ids) in
    let list : ids_in (ids_count bytes) (ids_row bytes) ≡ ids =
    (λ i. ids_in (count i) (row i)) ∙ ids_back ids ranges.1.0 in
    λ i. IdsStored (number i) (list i)

-- the one record that the fields of a kind are read to
abbrev read_of : Kind → List ℕ → Option Record
read_of PlanMadeKind bytes = Some (plan_at bytes)
read_of IdsStoredKind bytes = Some (ids_at bytes)
read_of MigrationStartedKind bytes = fixed_record MigrationStartedKind bytes
read_of ChosenKind bytes = fixed_record ChosenKind bytes
read_of SnapTakenKind bytes = fixed_record SnapTakenKind bytes
read_of VolumesMadeKind bytes = fixed_record VolumesMadeKind bytes
read_of CheckpointAddedKind bytes = fixed_record CheckpointAddedKind bytes
read_of StageBegunKind bytes = fixed_record StageBegunKind bytes
read_of StageDoneKind bytes = fixed_record StageDoneKind bytes
read_of PausedKind bytes = fixed_record PausedKind bytes
read_of SnapRemovedKind bytes = fixed_record SnapRemovedKind bytes
read_of CutoverSetKind bytes = fixed_record CutoverSetKind bytes
read_of PowerStoredKind bytes = fixed_record PowerStoredKind bytes
read_of PoweredOffKind bytes = fixed_record PoweredOffKind bytes
read_of OffSeenKind bytes = fixed_record OffSeenKind bytes
read_of FinalSnapTakenKind bytes = fixed_record FinalSnapTakenKind bytes
read_of CancelAskedKind bytes = fixed_record CancelAskedKind bytes
read_of EndedKind bytes = fixed_record EndedKind bytes

spelling_read : (r : Record) → HasSpelling r
    → read_of (kind_of r) (spelled_fields (fields_of r)) ≡ Some r
spelling_read (PlanMade plan name interval vms) h =
    let bytes = spelled_fields (fields_of (PlanMade plan name interval vms)) in
    ap (λ (r : Record). Some r)
    (plan_read bytes plan name interval vms h (plan_shape bytes plan name interval vms refl))
spelling_read (MigrationStarted mig plan vm disks) h =
    (fixed_forth (MigrationStarted mig plan vm disks) refl h.ranges).read
spelling_read (Chosen mig way at) h = (fixed_forth (Chosen mig way at) refl h.ranges).read
spelling_read (SnapTaken mig snap mark) h =
    (fixed_forth (SnapTaken mig snap mark) refl h.ranges).read
spelling_read (IdsStored mig ids) h =
    ap (λ (r : Record). Some r)
    (ids_read (spelled_fields (fields_of (IdsStored mig ids))) mig ids h refl)
spelling_read (VolumesMade mig) h = (fixed_forth (VolumesMade mig) refl h.ranges).read
spelling_read (CheckpointAdded mig previous current last) h =
    (fixed_forth (CheckpointAdded mig previous current last) refl h.ranges).read
spelling_read (StageBegun mig disk) h = (fixed_forth (StageBegun mig disk) refl h.ranges).read
spelling_read (StageDone mig disk written) h =
    (fixed_forth (StageDone mig disk written) refl h.ranges).read
spelling_read (Paused mig at) h = (fixed_forth (Paused mig at) refl h.ranges).read
spelling_read (SnapRemoved mig snap) h = (fixed_forth (SnapRemoved mig snap) refl h.ranges).read
spelling_read (CutoverSet plan has at) h = (fixed_forth (CutoverSet plan has at) refl h.ranges).read
spelling_read (PowerStored mig on) h = (fixed_forth (PowerStored mig on) refl h.ranges).read
spelling_read (PoweredOff mig) h = (fixed_forth (PoweredOff mig) refl h.ranges).read
spelling_read (OffSeen mig off) h = (fixed_forth (OffSeen mig off) refl h.ranges).read
spelling_read (FinalSnapTaken mig snap mark place) h =
    (fixed_forth (FinalSnapTaken mig snap mark place) refl h.ranges).read
spelling_read (CancelAsked mig) h = (fixed_forth (CancelAsked mig) refl h.ranges).read
spelling_read (Ended mig how place) h = (fixed_forth (Ended mig how place) refl h.ranges).read

pub spellings_differ : SpellingsDiffer
spellings_differ a b has_a has_b e =
    let fields_a = spelled_fields (fields_of a) in
    let fields_b = spelled_fields (fields_of b) in
    let kind : kind_of a ≡ kind_of b =
    kinds_differ (kind_of a) (kind_of b)
    (head_same (kind_byte (kind_of a)) (kind_byte (kind_of b)) fields_a fields_b e) in
    let fields : fields_a ≡ fields_b =
    tail_same (kind_byte (kind_of a)) (kind_byte (kind_of b)) fields_a fields_b e in
    same_Some a b (sym (spelling_read a has_a) ∙ (λ i. read_of (kind i) (fields i))
    ∙ spelling_read b has_b)

pub spelled_is_read : SpelledIsRead
spelled_is_read body r (Ok other) spells answer =
    (spellings_differ other r answer.record_has spells.record_has
    (sym answer.spelled ∙ spells.spelled))
spelled_is_read body r (Err Bad) spells answer = absurd (answer r spells)
spelled_is_read body r (Err NoMemory) spells answer = tt
