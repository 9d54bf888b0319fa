-- What a checkpoint that is added, a stage that begins and one that is done leave of a sound
-- migration.
use Rattle.std.proofs.Common.{◌≡◌, ℕ, zero, suc, ◌+◌, ◌-◌, ◌<◌, ◌≤◌, List, [], ◌∷◌, ◌++◌, length, Bool, true, false, ◌&&◌, ◌||◌, cond, not, Option, Some, None, map, is_some, refl, sym, ap, subst, ◌∙◌, arith, option_map, length-append}
use Rattle.std.specs.Prelude.{IsSome, IsSomeAnd, slice_get, nat_lt, is_none}
use Rattle.std.specs.List.{AllByRecursion}
use Rattle.std.specs.Option.{option_map_or}
use Rattle.std.proofs.lemmas.Bool.{and_right, lt-ltb, false≢true}
use Rattle.std.proofs.lemmas.List.{length-map}
use Rattle.basics.proofs.Each.{each, each_both}
use Rattle.basics.proofs.ItemAt.{slice_get-last}
use Rattle.change_id.specs.declared.ChangeId.{ChangeId}
use Rattle.checkpoints.specs.declared.checkpoint.Checkpoint.{Checkpoint}
use Rattle.checkpoints.specs.declared.checkpoint.CheckRefused.{CheckRefused}
use Rattle.checkpoints.specs.declared.checkpoint.CheckRefused.TheVariants.{Order}
use Rattle.checkpoints.specs.DataVolume.{DataVolumeState, finished_count, last_checkpoint, reached_from, is_unfinished, finished_checkpoint, checkpoint_of, add_refusal, after_add, done_refusal, with_last_done, after_done}
use Rattle.checkpoints.specs.DataVolume as volume
use Rattle.checkpoints.proofs.Order.{length-done, last_is_finished, done_keeps_sound, add_keeps_sound, add_leaves_the_count, done_adds_one}
use Rattle.phase_table.specs.declared.phases.Phase.{Phase}
use Rattle.phase_table.specs.declared.phases.Phase.TheVariants.{AddFirstCheckpoint, CopyDisks, AddCheckpoint, AddFinalCheckpoint, CopyFinal, RemoveFinalSnapshot}
use Rattle.phase_table.specs.declared.table.Fact.TheVariants as Facts
use Rattle.ctl_state.specs.declared.migration.Migration.{Migration}
use Rattle.ctl_state.specs.declared.copies.DiskCopy.{DiskCopy}
use Rattle.ctl_state.specs.declared.copies.CopyBase.{CopyBase}
use Rattle.ctl_state.specs.Migration.{same_phase, next_of, moved, reached, all_done, is_being_copied, fresh_copy, begun_copy, done_copy, change_at, sectors_written}
use Rattle.ctl_state.specs.Steps.{finished_volume, with_checkpoint_done, with_stage_done}
use Rattle.ctl_state.specs.Sound.{facts_in, HaveCopied, StandsNow, is_from, GoesOnFrom, IsDoneOn, StandsBy, is_open, is_final_done, last_mark, FitsPhase, IsSound}
use Rattle.ctl_state.proofs.SoundCopies.{each-map, each-change, each-done, none-done, done-change, length-change}
use Rattle.ctl_state.proofs.SoundMoves.{at, keeps, Based, based, unbased, closed}

-- ---- lists that gain one

-- what was added stands last
last-added : {X : Type 0} (xs : List X) → (x : X)
    → slice_get (xs ++ x ∷ []) (length (xs ++ x ∷ []) - 1) ≡ Some x
last-added xs x =
    let n : length (xs ++ x ∷ []) - 1 ≡ length xs = omega (arith, length-append xs (x ∷ [])) in
    ap (λ (i : ℕ). slice_get (xs ++ x ∷ []) i) n ∙ slice_get-last xs x

some-added : {X : Type 0} (xs : List X) → (x : X) → nat_lt 0 (length (xs ++ x ∷ [])) ≡ true
some-added xs x = lt-ltb 0 (length (xs ++ x ∷ [])) (omega (arith, length-append xs (x ∷ [])))

-- ---- a checkpoint is added

fresh-undone : (copies : List DiskCopy)
    → AllByRecursion (λ c. c.done ≡ false) (map fresh_copy copies)
fresh-undone [] = tt
fresh-undone (c ∷ copies) = (refl, fresh-undone copies)

fresh-stand : (unfinished ended : Bool) (mark : ℕ) (last : Option ℕ) (copies : List DiskCopy)
    → unfinished ≡ true → ended ≡ false → Based false last copies
    → AllByRecursion (λ copy. StandsBy (unfinished && copy.done) ended mark last copy)
    (map fresh_copy copies)
fresh-stand false ended mark last copies e k h = absurd (false≢true e)
fresh-stand true true mark last copies e k h = absurd (false≢true (sym k))
fresh-stand true false mark last copies e k h =
    each-map _ _ fresh_copy (λ c stands. stands) copies h

and-not-true : (a b : Bool) → b ≡ true → (a && not b) ≡ false
and-not-true true b e = ap not e
and-not-true false b e = refl

-- of the phases before it no checkpoint is open, and the final one wasn't added
pub record MayOpen (m : Migration) : Type 0 where
  pub shut : is_open m ≡ false
  pub not_final : m.dv.has_final ≡ false
  pub stand : AllByRecursion
      (λ copy. StandsBy (is_open m && copy.done) (is_final_done m) m.mark (last_mark m.marks) copy)
      m.copies

-- with the checkpoint added
abbrev pub opened : Migration → (previous current : ℕ) → (last : Bool) → Migration
opened m previous current last =
    record m { dv = after_add m.dv previous current last; copies = map fresh_copy m.copies }

pub record IsOpened (m : Migration) (current : ℕ) : Type 0 where
  pub reached : reached m ≡ current
  pub added : nat_lt 0 (length m.dv.checkpoints) ≡ true
  pub open_now : is_open m ≡ true
  pub left : all_done m.copies ≡ false
  pub stand : AllByRecursion
      (λ copy. StandsBy (is_open m && copy.done) (is_final_done m) m.mark (last_mark m.marks) copy)
      m.copies

opens : (m : Migration) (previous current : ℕ) (last : Bool) → 1 ≤ length m.copies → MayOpen m
    → IsOpened (opened m previous current last) current
opens m previous current last some may =
    let x = checkpoint_of previous current false in
    let added : last_checkpoint (m.dv.checkpoints ++ x ∷ []) ≡ Some x =
    last-added m.dv.checkpoints x in
    let now_open : is_unfinished (last_checkpoint (m.dv.checkpoints ++ x ∷ [])) ≡ true =
    ap is_unfinished added in
    let ended : is_final_done m ≡ false = ap (λ (b : Bool). b && not (is_open m)) may.not_final in
    let base : Based false (last_mark m.marks) m.copies =
    subst (λ (b : Bool). Based b (last_mark m.marks) m.copies) ended
    (based (is_open m) (is_final_done m) m.mark (last_mark m.marks) m.copies may.shut may.stand)
    in
    record {
      reached = ap (reached_from 0) added;
      added = some-added m.dv.checkpoints x;
      open_now = now_open;
      left = none-done (map fresh_copy m.copies) (let same = length-map m.copies fresh_copy in
          omega (arith, same, some)) (fresh-undone m.copies);
      stand = fresh-stand _ _ m.mark (last_mark m.marks) m.copies now_open
          (and-not-true _ _ now_open) base;
    }

-- what is known besides its phase
pub opened-sound : (m n : Migration) (previous current : ℕ) (last : Bool) → IsSound m
    → add_refusal m.dv previous current ≡ None
    → n.disks ≡ m.disks → n.copies ≡ map fresh_copy m.copies
    → n.dv ≡ after_add m.dv previous current last → n.marks ≡ m.marks → n.written ≡ m.written
    → n.how ≡ None → FitsPhase n → IsSound n
opened-sound m n previous current last s may disks copies dv marks written how fits = record {
  some_disks = subst (λ (k : ℕ). 1 ≤ k) (sym disks) s.some_disks;
  few_disks = let few = s.few_disks in omega (arith, few, disks);
  paired = ap length copies ∙ length-map m.copies fresh_copy ∙ s.paired ∙ sym disks;
  volume = subst (λ v. volume.IsSound v) (sym dv)
      (add_keeps_sound m.dv previous current last s.volume may);
  marked = ap length marks ∙ s.marked
      ∙ sym (ap (λ v. finished_count v.checkpoints) dv
      ∙ add_leaves_the_count m.dv previous current last);
  counted = ap length written ∙ s.counted
      ∙ sym (ap (λ v. finished_count v.checkpoints) dv
      ∙ add_leaves_the_count m.dv previous current last);
  now = subst (λ h. StandsNow h n) (sym how) fits;
}

fresh-ids : (named : Bool) (copies : List DiskCopy)
    → AllByRecursion (λ c. is_some c.id ≡ named) copies
    → AllByRecursion (λ c. is_some c.id ≡ named) (map fresh_copy copies)
fresh-ids named copies h = each-map _ _ fresh_copy (λ c e. e) copies h

pub checkpoint-first : (m : Migration) (previous current : ℕ) → m.snap ≡ Some current
    → add_refusal m.dv previous current ≡ None → IsSound (at AddFirstCheckpoint m)
    → IsSound (moved (opened (at AddFirstCheckpoint m) previous current false) Facts.Done)
unfolding next_of
checkpoint-first m previous current snap may s =
    let f : FitsPhase (at AddFirstCheckpoint m) = s.now in
    let some : 1 ≤ length m.copies =
    (let few = s.some_disks in let same = s.paired in omega (arith, few, same)) in
    let o : IsOpened (opened m previous current false) current =
    opens m previous current false some
    (record { shut = f.unfinished; not_final = f.final; stand = f.stand }) in
    opened-sound (at AddFirstCheckpoint m) (at CopyDisks (opened m previous current false)) previous
    current false s may refl refl refl refl refl refl (record {
      live = refl;
      current = snap ∙ ap (λ (k : ℕ). Some k) (sym o.reached);
      named = fresh-ids true m.copies f.named;
      copied = tt;
      volumes = f.volumes;
      added = o.added;
      paused = f.paused;
      power = f.power;
      placed = f.placed;
      final = ap (λ (b : Bool). b || false) f.final;
      unfinished = o.open_now ∙ ap not (sym o.left);
      stand = o.stand;
    })

pub checkpoint-next : (m : Migration) (previous current : ℕ) → m.snap ≡ Some current
    → add_refusal m.dv previous current ≡ None → IsSound (at AddCheckpoint m)
    → IsSound (moved (opened (at AddCheckpoint m) previous current false) Facts.Done)
unfolding next_of
checkpoint-next m previous current snap may s =
    let f : FitsPhase (at AddCheckpoint m) = s.now in
    let some : 1 ≤ length m.copies =
    (let few = s.some_disks in let same = s.paired in omega (arith, few, same)) in
    let o : IsOpened (opened m previous current false) current =
    opens m previous current false some
    (record {
      shut = closed AddCheckpoint m refl f.copied f;
      not_final = f.final;
      stand =
          f.stand;
    }) in
    opened-sound (at AddCheckpoint m) (at CopyDisks (opened m previous current false)) previous
    current false s may refl refl refl refl refl refl (record {
      live = refl;
      current = snap ∙ ap (λ (k : ℕ). Some k) (sym o.reached);
      named = fresh-ids true m.copies f.named;
      copied = tt;
      volumes = f.volumes;
      added = o.added;
      paused = λ e. absurd (false≢true e);
      power = f.power;
      placed = f.placed;
      final = ap (λ (b : Bool). b || false) f.final;
      unfinished = o.open_now ∙ ap not (sym o.left);
      stand = o.stand;
    })

pub checkpoint-final : (m : Migration) (previous current : ℕ) → m.snap ≡ Some current
    → add_refusal m.dv previous current ≡ None → IsSound (at AddFinalCheckpoint m)
    → IsSound (moved (opened (at AddFinalCheckpoint m) previous current true) Facts.Done)
unfolding next_of
checkpoint-final m previous current snap may s =
    let f : FitsPhase (at AddFinalCheckpoint m) = s.now in
    let some : 1 ≤ length m.copies =
    (let few = s.some_disks in let same = s.paired in omega (arith, few, same)) in
    let o : IsOpened (opened m previous current true) current =
    opens m previous current true some
    (record {
      shut = closed AddFinalCheckpoint m refl f.copied f;
      not_final = f.final;
      stand =
          f.stand;
    }) in
    opened-sound (at AddFinalCheckpoint m) (at CopyFinal (opened m previous current true)) previous
    current true s may refl refl refl refl refl refl (record {
      live = refl;
      current = snap ∙ ap (λ (k : ℕ). Some k) (sym o.reached);
      named = fresh-ids false m.copies f.named;
      copied = o.left;
      volumes = f.volumes;
      added = o.added;
      paused = f.paused;
      power = f.power;
      placed = f.placed;
      final = ap (λ (b : Bool). b || true) f.final;
      unfinished = o.open_now ∙ ap not (sym o.left);
      stand = o.stand;
    })

-- ---- a stage begins

begun-stand : (on ended : Bool) (mark : ℕ) (last : Option ℕ) (c : DiskCopy)
    → StandsBy on ended mark last c → StandsBy on ended mark last (begun_copy c)
begun-stand true ended mark last c h = h
begun-stand false true mark last c h = h
begun-stand false false mark last c h = h

abbrev begun : Migration → (disk : ℕ) → Migration
begun m disk = record m { copies = change_at m.copies disk begun_copy }

pub begins : (p : Phase) (m : Migration) (disk : ℕ) → is_from CopyDisks p ≡ true
    → (HaveCopied (facts_in p).copied m.copies
    → HaveCopied (facts_in p).copied (change_at m.copies disk begun_copy))
    → IsSound (at p m) → IsSound (begun (at p m) disk)
begins p m disk from copied s =
    let f : FitsPhase (at p m) = s.now in
    keeps (at p m) (begun (at p m) disk) s refl (length-change begun_copy m.copies disk) refl refl
    refl (record {
      live = f.live;
      current = f.current;
      named = each-change _ _ begun_copy (λ c e. e) (λ c e. e) m.copies disk f.named;
      copied = copied f.copied;
      volumes = f.volumes;
      added = f.added;
      paused = f.paused;
      power = f.power;
      placed = f.placed;
      final = f.final;
      unfinished = f.unfinished
          ∙ ap (λ (b : Bool). is_from CopyDisks p && not b)
          (sym (done-change begun_copy (λ c. refl) m.copies disk));
      stand = each-change _ _ begun_copy (λ c h. h)
          (λ c h. begun-stand _ _ m.mark (last_mark m.marks) c h) m.copies disk f.stand;
    })

-- ---- a stage is done

copied-not-done : (c : DiskCopy) → (cond c.begun (not c.done) false) ≡ true → c.done ≡ false
copied-not-done c h = by (c.begun) (c.done) h
  where
    by : (begun done : Bool) → cond begun (not done) false ≡ true → done ≡ false
    by true true e = absurd (false≢true e)
    by true false e = refl
    by false done e = absurd (false≢true e)

abbrev is_copied_at : List DiskCopy → (disk : ℕ) → Bool
is_copied_at copies disk =
    option_map_or (λ copy. cond copy.begun (not copy.done) false) (slice_get copies disk) false

-- a disk that is copied is left
pub left-there : (copies : List DiskCopy) (disk : ℕ) → is_copied_at copies disk ≡ true
    → all_done copies ≡ false
left-there [] disk h = absurd (false≢true h)
left-there (c ∷ copies) zero h = ap (λ (b : Bool). b && all_done copies) (copied-not-done c h)
left-there (c ∷ copies) (suc disk) h = and_right c.done (all_done copies) (left-there copies disk h)

abbrev pub stage_done : Migration → (disk written : ℕ) → Migration
stage_done m disk written = record m { copies = change_at m.copies disk (done_copy m.mark written) }

-- in an open checkpoint the disk stands on the current snapshot from now on
done-stand : (unfinished ended : Bool) (mark written : ℕ) (last : Option ℕ) (copies : List DiskCopy)
    (disk : ℕ) → unfinished ≡ true
    → AllByRecursion (λ copy. StandsBy (unfinished && copy.done) ended mark last copy) copies
    → AllByRecursion (λ copy. StandsBy (unfinished && copy.done) ended mark last copy)
    (change_at copies disk (done_copy mark written))
done-stand false ended mark written last copies disk e h = absurd (false≢true e)
done-stand true ended mark written last copies disk e h =
    each-change _ _ (done_copy mark written) (λ c stands. stands) (λ c stands. refl) copies disk h

-- some disks are left
pub goes-on-copying : (p : Phase) (m : Migration) (disk written : ℕ) → is_from CopyDisks p ≡ true
    → is_open m ≡ true → all_done (change_at m.copies disk (done_copy m.mark written)) ≡ false
    → HaveCopied (facts_in p).copied (change_at m.copies disk (done_copy m.mark written))
    → IsSound (at p m) → IsSound (stage_done (at p m) disk written)
goes-on-copying p m disk written from now_open left copied s =
    let f : FitsPhase (at p m) = s.now in
    keeps (at p m) (stage_done (at p m) disk written) s refl
    (length-change (done_copy m.mark written) m.copies disk) refl refl refl (record {
      live = f.live;
      current = f.current;
      named = each-change _ _ (done_copy m.mark written) (λ c e. e) (λ c e. e) m.copies disk
          f.named;
      copied = copied;
      volumes = f.volumes;
      added = f.added;
      paused = f.paused;
      power = f.power;
      placed = f.placed;
      final = f.final;
      unfinished = now_open
          ∙ sym (ap (λ (b : Bool). b && not
          (all_done (change_at m.copies disk (done_copy m.mark written)))) from ∙ ap not left);
      stand = done-stand (is_open m) (is_final_done m) m.mark written (last_mark m.marks) m.copies
          disk now_open f.stand;
    })

-- ---- the last one is done

abbrev refused_unless : Bool → Option CheckRefused
refused_unless b = cond b None (Some Order)

pub finished-is : (dv : DataVolumeState) → is_unfinished (last_checkpoint dv.checkpoints) ≡ true
    → finished_volume dv ≡ after_done dv
finished-is dv e = ap (λ (b : Bool). cond (is_none (refused_unless b)) (after_done dv) dv) e

refuses-none : (dv : DataVolumeState) → is_unfinished (last_checkpoint dv.checkpoints) ≡ true
    → done_refusal dv.checkpoints ≡ None
refuses-none dv e = ap refused_unless e

finished-shut : (c : Option Checkpoint) → is_unfinished (option_map finished_checkpoint c) ≡ false
finished-shut None = refl
finished-shut (Some c) = refl

finished-reaches : (c : Option Checkpoint)
    → reached_from 0 (option_map finished_checkpoint c) ≡ reached_from 0 c
finished-reaches None = refl
finished-reaches (Some c) = refl

-- with its last checkpoint finished
abbrev pub finished : Migration → Migration
finished m = record m {
  dv = after_done m.dv;
  marks = m.marks ++ m.mark ∷ [];
  written = m.written ++ sectors_written
      m.copies ∷ [];
}

pub record IsFinished (m n : Migration) : Type 0 where
  pub shut : is_open n ≡ false
  pub reaches : reached n ≡ reached m
  pub as_many : length n.dv.checkpoints ≡ length m.dv.checkpoints
  pub last : last_mark n.marks ≡ Some m.mark

finishes : (m : Migration) → IsFinished m (finished m)
finishes m = record {
  shut = ap is_unfinished (last_is_finished m.dv.checkpoints)
      ∙ finished-shut (last_checkpoint m.dv.checkpoints);
  reaches = ap (reached_from 0) (last_is_finished m.dv.checkpoints)
      ∙ finished-reaches (last_checkpoint m.dv.checkpoints);
  as_many = length-done m.dv.checkpoints;
  last = last-added m.marks m.mark;
}

one-more : (xs : List ℕ) (x : ℕ) (dv : DataVolumeState)
    → is_unfinished (last_checkpoint dv.checkpoints) ≡ true
    → length xs ≡ finished_count dv.checkpoints
    → length (xs ++ x ∷ []) ≡ finished_count (with_last_done dv.checkpoints)
one-more xs x dv now_open e =
    omega (
      arith,
      length-append xs (x ∷ []),
      e,
      done_adds_one dv.checkpoints
          (refuses-none dv now_open),
    )

-- what is known besides its phase; k and n are the migration before and behind
finished-sound : (m k n : Migration) → IsSound m → is_open m ≡ true → k.disks ≡ m.disks
    → length k.copies ≡ length m.copies → k.dv ≡ m.dv → k.marks ≡ m.marks → k.written ≡ m.written
    → n.disks ≡ k.disks → n.copies ≡ k.copies → n.dv ≡ after_done k.dv
    → n.marks ≡ k.marks ++ k.mark ∷ [] → n.written ≡ k.written ++ sectors_written k.copies ∷ []
    → n.how ≡ None → FitsPhase n → IsSound n
finished-sound m k n s now_open disks copies dv marks written disks2 copies2 dv2 marks2 written2 how
    fits =
    let same : n.dv ≡ after_done m.dv = dv2 ∙ ap after_done dv in
    record {
      some_disks = let few = s.some_disks in omega (arith, few, disks, disks2);
      few_disks = let few = s.few_disks in omega (arith, few, disks, disks2);
      paired = ap length copies2 ∙ copies ∙ s.paired ∙ sym (disks2 ∙ disks);
      volume = subst (λ v. volume.IsSound v) (sym same) (done_keeps_sound m.dv s.volume);
      marked = ap length marks2 ∙ one-more k.marks k.mark m.dv now_open (ap length marks ∙ s.marked)
          ∙ sym (ap (λ v. finished_count v.checkpoints) same);
      counted = ap length written2
          ∙ one-more k.written (sectors_written k.copies) m.dv now_open
          (ap length written ∙ s.counted) ∙ sym (ap (λ v. finished_count v.checkpoints) same);
      now = subst (λ h. StandsNow h n) (sym how) fits;
    }

-- each copy that is done in an open checkpoint stands on the current snapshot
all-on-current : (unfinished ended : Bool) (mark : ℕ) (last : Option ℕ) (copies : List DiskCopy)
    → unfinished ≡ true → all_done copies ≡ true
    → AllByRecursion (λ copy. StandsBy (unfinished && copy.done) ended mark last copy) copies
    → AllByRecursion (IsDoneOn mark) copies
all-on-current false ended mark last copies e done h = absurd (false≢true e)
all-on-current true ended mark last copies e done h =
    each_both (λ c is stands. subst (λ (b : Bool). StandsBy b ended mark last c) is stands)
    copies (each-done copies done) h

-- which is that of the checkpoint that is finished with it
goes-on-from : (named : Bool) (mark : ℕ) (copies : List DiskCopy) → named ≡ true
    → AllByRecursion (λ c. is_some c.id ≡ named) copies → AllByRecursion (IsDoneOn mark) copies
    → Based false (Some mark) copies
goes-on-from false mark copies e ids h = absurd (false≢true e)
goes-on-from true mark copies e ids h =
    each_both (λ c has on. subst (λ (base : Option CopyBase). GoesOnFrom (Some mark) base) (sym on)
    (refl, has)) copies ids h

ended-on : (mark : ℕ) (copies : List DiskCopy) → AllByRecursion (IsDoneOn mark) copies
    → Based true (Some mark) copies
ended-on mark copies h = each (λ c on. subst
    (λ (base : Option CopyBase). IsSomeAnd base (λ b. Some mark ≡ Some b.mark)) (sym on) refl)
    copies h

-- in a checkpoint that others follow
pub finishes-copying : (m : Migration) (disk written : ℕ) → is_open m ≡ true
    → all_done (change_at m.copies disk (done_copy m.mark written)) ≡ true
    → IsSound (at CopyDisks m) → IsSound (finished (stage_done (at CopyDisks m) disk written))
finishes-copying m disk written now_open done s =
    let f : FitsPhase (at CopyDisks m) = s.now in
    let k = stage_done (at CopyDisks m) disk written in
    let e : IsFinished k (finished k) = finishes k in
    let named = each-change _ _ (done_copy m.mark written) (λ c h. h) (λ c h. h) m.copies disk
    f.named in
    let on = all-on-current (is_open m) (is_final_done m) m.mark (last_mark m.marks) k.copies
    now_open done
    (done-stand (is_open m) (is_final_done m) m.mark written (last_mark m.marks) m.copies disk
    now_open f.stand) in
    let ended : is_final_done (finished k) ≡ false =
    ap (λ (b : Bool). b && not (is_open (finished k))) f.final in
    finished-sound (at CopyDisks m) k (finished k) s now_open refl
    (length-change (done_copy m.mark written) m.copies disk) refl refl refl refl refl refl refl
    refl refl (record {
      live = refl;
      current = f.current ∙ ap (λ (r : ℕ). Some r) (sym e.reaches);
      named = named;
      copied = tt;
      volumes = f.volumes;
      added = ap (nat_lt 0) e.as_many ∙ f.added;
      paused = f.paused;
      power = f.power;
      placed = f.placed;
      final = f.final;
      unfinished = e.shut ∙ ap not (sym done);
      stand = unbased (is_open (finished k)) (is_final_done (finished k)) m.mark
          (last_mark (finished k).marks) k.copies e.shut
          (subst (λ (b : Bool). Based b (last_mark (finished k).marks) k.copies) (sym ended)
          (subst (λ (last : Option ℕ). Based false last k.copies) (sym e.last)
          (goes-on-from true m.mark k.copies refl named on)));
    })

-- in the final one, which leads on
pub finishes-final : (m : Migration) (disk written : ℕ) → is_open m ≡ true
    → all_done (change_at m.copies disk (done_copy m.mark written)) ≡ true
    → IsSound (at CopyFinal m)
    → IsSound (moved (finished (stage_done (at CopyFinal m) disk written)) Facts.Done)
unfolding next_of
finishes-final m disk written now_open done s =
    let f : FitsPhase (at CopyFinal m) = s.now in
    let k = stage_done (at CopyFinal m) disk written in
    let e : IsFinished k (finished k) = finishes k in
    let named = each-change _ _ (done_copy m.mark written) (λ c h. h) (λ c h. h) m.copies disk
    f.named in
    let on = all-on-current (is_open m) (is_final_done m) m.mark (last_mark m.marks) k.copies
    now_open done
    (done-stand (is_open m) (is_final_done m) m.mark written (last_mark m.marks) m.copies disk
    now_open f.stand) in
    let ended : is_final_done (finished k) ≡ true =
    ap (λ (b : Bool). b && not (is_open (finished k))) f.final ∙ ap not e.shut in
    finished-sound (at CopyFinal m) k (at RemoveFinalSnapshot (finished k)) s now_open refl
    (length-change (done_copy m.mark written) m.copies disk) refl refl refl refl refl refl refl
    refl refl (record {
      live = refl;
      current = f.current ∙ ap (λ (r : ℕ). Some r) (sym e.reaches);
      named = named;
      copied = done;
      volumes = f.volumes;
      added = ap (nat_lt 0) e.as_many ∙ f.added;
      paused = f.paused;
      power = f.power;
      placed = f.placed;
      final = f.final;
      unfinished = e.shut ∙ ap not (sym done);
      stand = unbased (is_open (finished k)) (is_final_done (finished k)) m.mark
          (last_mark (finished k).marks) k.copies e.shut
          (subst (λ (b : Bool). Based b (last_mark (finished k).marks) k.copies) (sym ended)
          (subst (λ (last : Option ℕ). Based true last k.copies) (sym e.last)
          (ended-on m.mark k.copies on)));
    })
