-- What a stop, a restart, a cancel and a completion leave of a sound world.
use Rattle.std.proofs.Common.{◌≡◌, ℕ, suc, List, [], ◌∷◌, length, replicate, Bool, true, false, not, cond, Option, Some, None, refl, sym, ap, subst, ◌∙◌, ◌⊎◌, inl, inr, slice_index_or}
use Rattle.std.specs.Option.{IsSomeAnd, option_and_then}
use Rattle.std.proofs.lemmas.Bool.{false≢true, eq-eqb}
use Rattle.std.proofs.lemmas.Option.{none-some}
use Rattle.sector_model.specs.VolumeContents.{VolumeContents, IsSized, IsFlushed, is_loose, volume_stopped}
use Rattle.sector_model.specs.declared.sector.Sector.{Sector}
use Rattle.sector_model.proofs.Volumes.{keep_their_size, stop_leaves_flushed, stop_leaves_others}
use Rattle.log_model.specs.declared.entry.Entry.{Entry}
use Rattle.log_model.specs.declared.link.Snapped.{Snapped}
use Rattle.log_model.specs.Legal.{Legal, only}
use Rattle.log_model.specs.Touched.{touched}
use Rattle.sector_model.specs.Run.{in_blocks}
use Rattle.log_model.proofs.OffLaws.{off_is_frozen}
use Rattle.warm_core.specs.declared.disk_world.Base.{Base}
use Rattle.warm_core.specs.declared.stage_state.StageState.{StageState}
use Rattle.warm_core.specs.Staged.{is_unfinished, IsBaseOf, open_blocks, disk_at, IsOnBase, Staged, IsFullCopy}
use Rattle.warm_core.specs.World.{World, MayLose, IsCompleteAt, IsSound}
use Rattle.warm_core.specs.Events.{MayComplete}
use Rattle.warm_core.specs.Laws.{FinishedIsWhole, WholeAtOffPlace, FinishedSnapshotsGo}
use Rattle.basics.proofs.ItemAt.{same_items}
use Rattle.warm_core.proofs.Stages.{length-disk_at}
use Rattle.warm_core.proofs.Holding.{fillings_stay}

-- ---- a stop

lost : {w : World} {L A : Type 0} → L ⊎ MayLose w → (MayLose w → A) → L ⊎ A
lost (inl live) f = inl live
lost (inr lose) f = inr (f lose)

filled-complete : (w : World) (filling : List Sector) (p : ℕ) → IsSized w.capacity w.volume
    → IsCompleteAt w p
    → IsCompleteAt (record w
    { volume = volume_stopped filling w.volume; stage = None; running = false }) p
filled-complete w filling p sized complete =
    let same : volume_stopped filling w.volume ≡ w.volume =
    stop_leaves_flushed w.capacity w.volume filling sized complete.tight in
    record {
      last = complete.last;
      no_stage = refl;
      finished = complete.finished;
      off_place = complete.off_place;
      tight = subst IsFlushed (sym same) complete.tight;
      same = subst (λ (v : VolumeContents). IsFullCopy w.capacity w.disk p w.log v) (sym same)
          complete.same;
    }

pub stopped-sound : (w : World) (filling : List Sector) → IsSound w
    → IsSound (record w { volume = volume_stopped filling w.volume; stage = None; running = false })
stopped-sound w filling sound = record {
  legal = sound.legal;
  sized = (keep_their_size w.capacity w.volume sound.sized).stopped filling;
  base_is = sound.base_is;
  base_has_snap = sound.base_has_snap;
  snap_is = sound.snap_is;
  snap_from_base = sound.snap_from_base;
  snap_lives = λ snap is unfinished. lost (sound.snap_lives snap is unfinished)
      (λ lose. record { cancelled = lose.cancelled; no_stage = refl });
  last_is_off = sound.last_is_off;
  stage_has_snap = λ some. absurd (false≢true some);
  stage_is = λ snap is t is'. absurd (none-some t is');
  complete_is = λ p is. filled-complete w filling p sound.sized (sound.complete_is p is);
  staged = fillings_stay w.capacity w.disk w.log w.base w.snap w.volume
      (volume_stopped filling w.volume) sound.sized sound.staged
      (stop_leaves_others w.capacity w.volume filling sound.sized);
}

-- ---- a restart

pub restarted-sound : (w : World) → IsSound w → IsSound (record w { running = true })
restarted-sound w sound = record {
  legal = sound.legal;
  sized = sound.sized;
  base_is = sound.base_is;
  base_has_snap = sound.base_has_snap;
  snap_is = sound.snap_is;
  snap_from_base = sound.snap_from_base;
  snap_lives = λ snap is unfinished. lost (sound.snap_lives snap is unfinished)
      (λ lose. record { cancelled = lose.cancelled; no_stage = lose.no_stage });
  last_is_off = sound.last_is_off;
  stage_has_snap = sound.stage_has_snap;
  stage_is = λ snap is t is'.
      let old = sound.stage_is snap is t is' in
      record { running = refl; has_id = old.has_id; fits = old.fits; holds = old.holds };
  complete_is = λ p is.
      let old = sound.complete_is p is in
      record {
        last = old.last;
        no_stage = old.no_stage;
        finished = old.finished;
        off_place =
            old.off_place;
        tight = old.tight;
        same = old.same;
      };
  staged = sound.staged;
}

-- ---- a cancel

pub cancelled-sound : (w : World) → IsSound w → w.complete ≡ None
    → IsSound (record w { cancelled = true })
cancelled-sound w sound incomplete = record {
  legal = sound.legal;
  sized = sound.sized;
  base_is = sound.base_is;
  base_has_snap = sound.base_has_snap;
  snap_is = sound.snap_is;
  snap_from_base = sound.snap_from_base;
  snap_lives = λ snap is unfinished. lost (sound.snap_lives snap is unfinished)
      (λ lose. record { cancelled = refl; no_stage = lose.no_stage });
  last_is_off = sound.last_is_off;
  stage_has_snap = sound.stage_has_snap;
  stage_is = λ snap is t is'.
      let old = sound.stage_is snap is t is' in
      record { running = old.running; has_id = old.has_id; fits = old.fits; holds = old.holds };
  complete_is = λ p is. absurd (none-some p (sym incomplete ∙ is));
  staged = sound.staged;
}

-- ---- a completion

-- the base and the snapshot that it is of
pub record IsFinished (base : Option Base) (snap : Option Snapped) (b : Base) (s : Snapped) : Type 0
  where
    pub base_is : base ≡ Some b
    pub snap_is : snap ≡ Some s
    pub same : s.mark ≡ b.mark

pub finished-parts : (base : Option Base) (snap : Option Snapped) → IsBaseOf base snap
    → (b : Base) × (s : Snapped) × IsFinished base snap b s
finished-parts (Some b) (Some s) h = (b, s, record { base_is = refl; snap_is = refl; same = h })
finished-parts (Some b) None h = absurd h
finished-parts None snap h = absurd h

-- nothing is open over the base's own snapshot
closed : (b : Base) (s : Snapped) → s.mark ≡ b.mark → is_unfinished (Some b) (Some s) ≡ false
closed b s same = ap not (eq-eqb s.mark b.mark same)

nothing-open : (c d : ℕ) (log : List Entry) (b : Base) (snap : Option Snapped)
    → is_unfinished (Some b) snap ≡ false → open_blocks c d log b snap ≡ []
nothing-open c d log b None finished = refl
nothing-open c d log b (Some s) finished =
    ap (λ x. cond x (touched c d b.mark s.mark log) []) finished

all-false : (xs : List Bool) → ((s : ℕ) → slice_index_or xs s false ≡ false)
    → xs ≡ replicate (length xs) false
all-false [] h = refl
all-false (x ∷ xs) h =
    ap (λ (b : Bool). b ∷ xs) (h 0)
    ∙ ap (λ (rest : List Bool). false ∷ rest) (all-false xs (λ s. h (suc s)))

not-loose : (v : VolumeContents) (s : ℕ) (b : Bool) → is_loose s v ≡ b → (is_loose s v ≡ true → ⊥)
    → is_loose s v ≡ false
not-loose v s true is none = absurd (none is)
not-loose v s false is none = is

-- a volume on its base over a finished snapshot is just what the disk was there, flushed
on_base-whole : (c d : ℕ) (log : List Entry) (b : Base) (snap : Option Snapped) (v : VolumeContents)
    → Legal (only d c) log → IsSized c v → is_unfinished (Some b) snap ≡ false
    → IsOnBase c d log b snap v → IsFlushed v × IsFullCopy c d b.mark log v
on_base-whole c d log b snap v legal sized finished on =
    let open_is = nothing-open c d log b snap finished in (
      all-false v.loose (λ k. not-loose v k (is_loose k v) refl (λ loose.
          false≢true (sym (ap (λ (bs : List ℕ). in_blocks bs k) open_is)
          ∙ on.loose_inside k loose)))
          ∙ ap (λ n. replicate n false) (sized.1 ∙ sym sized.0),
      same_items v.sectors (disk_at c d b.mark log)
          (sized.0 ∙ sym (length-disk_at c d b.mark log legal))
          (λ k less. on.as_base k (ap (λ (bs : List ℕ). in_blocks bs k) open_is)),
    )

pub finished_is_whole : FinishedIsWhole
finished_is_whole c d log b snap v legal sized finished (inl on) =
    on_base-whole c d log b snap v legal sized finished on
finished_is_whole c d log b snap v legal sized finished (inr forgotten) =
    absurd (false≢true (sym finished ∙ forgotten.unfinished))

pub whole_at_off_place : WholeAtOffPlace
whole_at_off_place c d log snap place v legal is off same =
    same ∙ sym (off_is_frozen (only d c) log c d snap.id place legal (is.off_place_is ∙ off)
    ∙ ap (λ n. disk_at c d n log) is.mark_is)

-- and a finished snapshot may go
on_base-gone : (c d : ℕ) (log : List Entry) (b : Base) (snap : Option Snapped) (v : VolumeContents)
    → is_unfinished (Some b) snap ≡ false → IsOnBase c d log b snap v → IsOnBase c d log b None v
on_base-gone c d log b snap v finished on =
    let open_is = nothing-open c d log b snap finished in
    record {
      as_base = λ s none. on.as_base s (ap (λ (bs : List ℕ). in_blocks bs s) open_is);
      loose_inside = λ s loose. sym (ap (λ (bs : List ℕ). in_blocks bs s) open_is)
          ∙ on.loose_inside s loose;
    }

pub finished_snapshots_go : FinishedSnapshotsGo
finished_snapshots_go c d log b snap v finished (inl on) =
    inl (on_base-gone c d log b snap v finished on)
finished_snapshots_go c d log b snap v finished (inr forgotten) =
    absurd (false≢true (sym finished ∙ forgotten.unfinished))

no-stage-at : (w : World) (b : Base) (s : Snapped) (o : Option StageState) → IsSound w
    → IsFinished w.base w.snap b s → w.stage ≡ o → o ≡ None
no-stage-at w b s None sound finished is = refl
no-stage-at w b s (Some t) sound finished is =
    let stage = sound.stage_is s finished.snap_is t is in
    absurd (false≢true (sym (closed b s finished.same)
    ∙ subst (λ (o : Option Base). is_unfinished o (Some s) ≡ true) finished.base_is
    stage.fits.unfinished))

place-of : (o : Option Snapped) (s : Snapped) (p : ℕ) → o ≡ Some s
    → option_and_then (λ (snap : Snapped). snap.off_place) o ≡ Some p → s.off_place ≡ Some p
place-of o s p is h =
    ap (λ (x : Option Snapped). option_and_then (λ (snap : Snapped). snap.off_place) x) (sym is) ∙ h

and-of : (o : Option Snapped) (s : Snapped) (p : ℕ) → o ≡ Some s → s.off_place ≡ Some p
    → IsSomeAnd o (λ snap. snap.off_place ≡ Some p)
and-of o s p is h = let P : Option Snapped → Type 0 =
    λ x. IsSomeAnd x (λ snap. snap.off_place ≡ Some p) in subst P (sym is) h

pub complete-at : (w : World) (p : ℕ) → IsSound w → MayComplete w
    → option_and_then (λ (snap : Snapped). snap.off_place) w.snap ≡ Some p
    → IsCompleteAt (record w { complete = option_and_then (λ snap. snap.off_place) w.snap }) p
complete-at w p sound may is =
    let parts = finished-parts w.base w.snap may.finished in
    let b = parts.0 in
    let s = parts.1 in
    let finished = parts.2 in
    let snap_is = sound.snap_is s finished.snap_is in
    let place : s.off_place ≡ Some p = place-of w.snap s p finished.snap_is is in
    let staged : Staged w.capacity w.disk w.log (Some b) w.snap w.volume =
    subst (λ (o : Option Base). Staged w.capacity w.disk w.log o w.snap w.volume) finished.base_is
    sound.staged in
    let closed_is : is_unfinished (Some b) w.snap ≡ false =
    ap (λ (o : Option Snapped). is_unfinished (Some b) o) finished.snap_is
    ∙ closed b s finished.same in
    let whole = finished_is_whole w.capacity w.disk w.log b w.snap w.volume sound.legal sound.sized
    closed_is staged in
    record {
      last = may.last;
      no_stage = (let none = no-stage-at w b s w.stage sound finished refl in none);
      finished = may.finished;
      off_place = and-of w.snap s p finished.snap_is place;
      tight = whole.0;
      same = whole_at_off_place w.capacity w.disk w.log s p w.volume sound.legal snap_is place
          (whole.1 ∙ ap (λ n. disk_at w.capacity w.disk n w.log) (sym finished.same));
    }

pub completed-sound : (w : World) → IsSound w → MayComplete w
    → IsSound (record w { complete = option_and_then (λ snap. snap.off_place) w.snap })
completed-sound w sound may = record {
  legal = sound.legal;
  sized = sound.sized;
  base_is = sound.base_is;
  base_has_snap = sound.base_has_snap;
  snap_is = sound.snap_is;
  snap_from_base = sound.snap_from_base;
  snap_lives = λ snap is unfinished. lost (sound.snap_lives snap is unfinished)
      (λ lose. record { cancelled = lose.cancelled; no_stage = lose.no_stage });
  last_is_off = sound.last_is_off;
  stage_has_snap = sound.stage_has_snap;
  stage_is = λ snap is t is'.
      let old = sound.stage_is snap is t is' in
      record { running = old.running; has_id = old.has_id; fits = old.fits; holds = old.holds };
  complete_is = λ p is. complete-at w p sound may is;
  staged = sound.staged;
}
