-- What each event leaves of a sound world.
use Rattle.std.proofs.Common.{◌≡◌, ℕ, ◌+◌, ◌<◌, ◌^◌, List, take, true, false, not, Option, Some, None, Result, Ok, Err, IsOk, IsErr, refl, sym, ap, subst, ◌∙◌, arith, ◌⊎◌, inl, inr}
use Rattle.std.specs.List.{slice_get}
use Rattle.std.specs.Option.{is_some, IsSomeAnd, option_map}
use Rattle.std.proofs.lemmas.Bool.{false≢true, eq-eqb}
use Rattle.std.proofs.lemmas.Option.{same_Some, none-some}
use Rattle.basics.proofs.Options.{some_value}
use Rattle.sector_model.specs.VolumeContents.{VolumeContents, volume_flushed, volume_zeroed}
use Rattle.sector_model.specs.declared.run.Run.{Run}
use Rattle.change_id.specs.declared.ChangeId.{ChangeId}
use Rattle.log_model.specs.declared.entry.Entry.{Entry}
use Rattle.log_model.specs.declared.link.Snapped.{Snapped}
use Rattle.log_model.specs.Marks.{takes_in, in_force, id_at, HasId}
use Rattle.change_id.proofs.IdMarks.{takes-at_mark}
use Rattle.log_model.proofs.Readings.{snap-takes}
use Rattle.warm_core.specs.declared.disk_world.Base.{Base}
use Rattle.warm_core.specs.declared.stage_state.StageState.{StageState}
use Rattle.warm_core.specs.StageState.{with_page, made_full, with_piece, at_its_end, MayAsk, MayCopy, MayZero, MayFlush}
use Rattle.warm_core.specs.Staged.{is_unfinished, blocks_asked, Staged, with_copy}
use Rattle.warm_core.specs.World.{World, IsSnapOf, MayLose, IsCompleteAt, StageIsSound, IsSound}
use Rattle.warm_core.specs.Events.{Runs, answer_now, page_end_of, at_stage, by_stage, base_of, after_page, after_copy, after_done}
use Rattle.warm_core.specs.Laws.{IsGround, StageStands}
use Rattle.warm_core.proofs.Stages.{stages_stay, done-staged}

-- ---- options and results

some-and : {A : Type 0} (o : Option A) (P : A → Type 0) → IsSomeAnd o P
    → (x : A) × (o ≡ Some x) × P x
some-and None P h = absurd h
some-and (Some x) P h = (x, refl, h)

pub ok-parts : {A B : Type 0} (r : Result A B) → IsOk r → (x : A) × (r ≡ Ok x)
ok-parts (Ok x) h = (x, refl)
ok-parts (Err y) h = absurd (false≢true h)

err-parts : {A B : Type 0} (r : Result A B) → IsErr r → (y : B) × (r ≡ Err y)
err-parts (Ok x) h = absurd (false≢true h)
err-parts (Err y) h = (y, refl)

-- ---- a sound world in which a stage runs

-- the snapshot and the stage of a world
pub record HasStage (w : World) (s : Snapped) (t : StageState) : Type 0 where
  pub snap : w.snap ≡ Some s
  pub stage : w.stage ≡ Some t

runs-parts : (w : World) (P : List ℕ → Snapped → StageState → Type 0) → Runs w P
    → (s : Snapped) × (t : StageState) × HasStage w s t
    × P (blocks_asked w.capacity w.disk w.log w.base s t.full) s t
runs-parts w P h =
    let a = some-and w.snap
    (λ s. IsSomeAnd w.stage (λ t. P (blocks_asked w.capacity w.disk w.log w.base s t.full) s t))
    h in
    let b = some-and w.stage (λ t. P (blocks_asked w.capacity w.disk w.log w.base a.0 t.full) a.0 t)
    a.2 in
    (a.0, b.0, record { snap = a.1; stage = b.1 }, b.2)

pub ground-of : (w : World) (s : Snapped) → w.capacity < 2 ^ 64 → IsSound w → w.snap ≡ Some s
    → IsGround w.machine w.capacity w.disk w.log w.base s
ground-of w s small sound is = record {
  small = small;
  legal = sound.legal;
  base_is = sound.base_is;
  from_base = sound.snap_from_base s is;
  snap_is = sound.snap_is s is;
}

pub stands-of : (w : World) (s : Snapped) (t : StageState) → IsSound w → HasStage w s t
    → StageStands w.capacity w.disk w.log w.base s t w.volume
stands-of w s t sound has =
    let stage = sound.stage_is s has.snap t has.stage in
    record {
      sized = sound.sized;
      fits = stage.fits;
      holds = stage.holds;
      staged = subst (λ (o : Option Snapped). Staged w.capacity w.disk w.log w.base o w.volume)
          has.snap sound.staged;
    }

-- while a stage runs, the snapshot isn't lost and the world isn't complete
not-lost : (w : World) (s : Snapped) (t : StageState) → HasStage w s t → MayLose w → ⊥
not-lost w s t has lose = none-some t (sym lose.no_stage ∙ has.stage)

not-complete : (w : World) (s : Snapped) (t : StageState) (p : ℕ) → HasStage w s t
    → IsCompleteAt w p → ⊥
not-complete w s t p has complete = none-some t (sym complete.no_stage ∙ has.stage)

live-of : (w : World) (s : Snapped) (t : StageState) {A : Type 0} {L : Type 0} → HasStage w s t
    → L ⊎ MayLose w → L ⊎ A
live-of w s t has (inl live) = inl live
live-of w s t has (inr lose) = absurd (not-lost w s t has lose)

-- the world goes on with its stage
stage-sound : (w : World) (s : Snapped) (t next : StageState) (v : VolumeContents) → IsSound w
    → HasStage w s t
    → StageStands w.capacity w.disk w.log w.base s next v
    → IsSound (record w { volume = v; stage = Some next })
stage-sound w s t next v sound has stands =
    let old = sound.stage_is s has.snap t has.stage in
    let new : World = record w { volume = v; stage = Some next } in
    let here : StageIsSound new s next =
    record {
      running = old.running;
      has_id = old.has_id;
      fits = stands.fits;
      holds =
          stands.holds;
    } in
    record {
      legal = sound.legal;
      sized = stands.sized;
      base_is = sound.base_is;
      base_has_snap = sound.base_has_snap;
      snap_is = sound.snap_is;
      snap_from_base = sound.snap_from_base;
      snap_lives = λ snap is unfinished. live-of w s t has (sound.snap_lives snap is unfinished);
      last_is_off = sound.last_is_off;
      stage_has_snap = λ _. ap (λ (o : Option Snapped). is_some o) has.snap;
      stage_is = λ snap is t' is'.
          subst (λ (x : StageState). StageIsSound new snap x) (same_Some next t' is')
          (subst (λ (x : Snapped). StageIsSound new x next) (same_Some s snap (sym has.snap ∙ is))
          here);
      complete_is = λ p is. absurd (not-complete w s t p has (sound.complete_is p is));
      staged = subst (λ (o : Option Snapped). Staged w.capacity w.disk w.log w.base o v)
          (sym has.snap) stands.staged;
    }

pub by_stage-is : (f : Snapped → StageState → World → World) (w : World) (s : Snapped)
    (t : StageState) → HasStage w s t → by_stage f w ≡ f s t w
by_stage-is f w s t has =
    ap (λ (o : Option Snapped). at_stage f o w.stage w) has.snap
    ∙ ap (λ (o : Option StageState). at_stage f (Some s) o w) has.stage

-- ---- the events of a stage

pub answered-sound : (w : World) → w.capacity < 2 ^ 64 → IsSound w
    → Runs w (λ blocks snap t. MayAsk blocks t × IsOk (answer_now w snap t))
    → IsSound (after_page w)
answered-sound w small sound may =
    let parts = runs-parts w (λ blocks snap t. MayAsk blocks t × IsOk (answer_now w snap t)) may in
    let s = parts.0 in
    let t = parts.1 in
    let has = parts.2 in
    let ok = ok-parts (answer_now w s t) (parts.3).1 in
    let step : Snapped → StageState → World → World =
    λ snap t w. record w {
      stage = Some
          (with_page (page_end_of w.capacity t.covered (answer_now w snap t)) t);
    } in
    let is : after_page w
    ≡ record w { stage = Some (with_page (page_end_of w.capacity t.covered (Ok ok.0)) t) } =
    by_stage-is step w s t has
    ∙ ap (λ (r : Result (List Run) (Option ChangeId)). record w
    { stage = Some (with_page (page_end_of w.capacity t.covered r) t) }) ok.1 in
    subst IsSound (sym is)
    (stage-sound w s t (with_page (page_end_of w.capacity t.covered (Ok ok.0)) t) w.volume sound
    has
    ((stages_stay w.machine w.capacity w.disk w.log w.base s t w.volume
    (ground-of w s small sound has.snap) (stands-of w s t sound has)).answered ok.0 (parts.3).0
    ok.1))

pub refused-sound : (w : World) → w.capacity < 2 ^ 64 → IsSound w
    → Runs w (λ blocks snap t. MayAsk blocks t × (t.full ≡ false) × IsErr (answer_now w snap t))
    → IsSound (record w { stage = option_map made_full w.stage })
refused-sound w small sound may =
    let parts = runs-parts w (λ blocks snap t. MayAsk blocks t × (t.full ≡ false)
    × IsErr (answer_now w snap t)) may in
    let s = parts.0 in
    let t = parts.1 in
    let has = parts.2 in
    let err = err-parts (answer_now w s t) (parts.3).2 in
    subst (λ (o : Option StageState). IsSound (record w { stage = option_map made_full o }))
    (sym has.stage)
    (stage-sound w s t (made_full t) w.volume sound has
    ((stages_stay w.machine w.capacity w.disk w.log w.base s t w.volume
    (ground-of w s small sound has.snap) (stands-of w s t sound has)).refused err.0 (parts.3).0
    (parts.3).1 err.1))

pub copied-sound : (w : World) (run : Run) → w.capacity < 2 ^ 64 → IsSound w
    → Runs w (λ blocks snap t. MayCopy blocks run t) → IsSound (after_copy run w)
copied-sound w run small sound may =
    let parts = runs-parts w (λ blocks snap t. MayCopy blocks run t) may in
    let s = parts.0 in
    let t = parts.1 in
    let has = parts.2 in
    let step : Snapped → StageState → World → World =
    λ snap t w. record w {
      volume = with_copy w.capacity w.disk snap.mark w.log run w.volume;
      stage = Some (with_piece run t);
    } in
    subst IsSound (sym (by_stage-is step w s t has))
    (stage-sound w s t (with_piece run t) (with_copy w.capacity w.disk s.mark w.log run w.volume)
    sound has
    ((stages_stay w.machine w.capacity w.disk w.log w.base s t w.volume
    (ground-of w s small sound has.snap) (stands-of w s t sound has)).copied run parts.3))

pub zeroed-sound : (w : World) (run : Run) → w.capacity < 2 ^ 64 → IsSound w
    → Runs w (λ blocks snap t. MayZero blocks run t)
    → IsSound (record w {
      volume = volume_zeroed run.first run.count w.volume;
      stage = option_map
          (with_piece run) w.stage;
    })
zeroed-sound w run small sound may =
    let parts = runs-parts w (λ blocks snap t. MayZero blocks run t) may in
    let s = parts.0 in
    let t = parts.1 in
    let has = parts.2 in
    subst (λ (o : Option StageState). IsSound
    (record w {
      volume = volume_zeroed run.first run.count w.volume;
      stage = option_map
          (with_piece run) o;
    })) (sym has.stage)
    (stage-sound w s t (with_piece run t) (volume_zeroed run.first run.count w.volume) sound has
    ((stages_stay w.machine w.capacity w.disk w.log w.base s t w.volume
    (ground-of w s small sound has.snap) (stands-of w s t sound has)).zeroed run parts.3))

pub flushed-sound : (w : World) → w.capacity < 2 ^ 64 → IsSound w
    → Runs w (λ blocks snap t. MayFlush blocks t)
    → IsSound (record w { volume = volume_flushed w.volume; stage = option_map at_its_end w.stage })
flushed-sound w small sound may =
    let parts = runs-parts w (λ blocks snap t. MayFlush blocks t) may in
    let s = parts.0 in
    let t = parts.1 in
    let has = parts.2 in
    subst (λ (o : Option StageState). IsSound
    (record w { volume = volume_flushed w.volume; stage = option_map at_its_end o }))
    (sym has.stage)
    (stage-sound w s t (at_its_end t) (volume_flushed w.volume) sound has
    ((stages_stay w.machine w.capacity w.disk w.log w.base s t w.volume
    (ground-of w s small sound has.snap) (stands-of w s t sound has)).flushed parts.3))

-- ---- a stage that is done

-- the snapshot of a sound world has its identifier at its mark
has-id : (machine d : ℕ) (log : List Entry) (s : Snapped) (id : ChangeId) → IsSnapOf log s
    → id_at machine d s.id log ≡ Some id → HasId machine d id log s.mark
has-id machine d log s id snap is =
    let at = snap.mark_is in
    record {
      snapshot = record {
        within = snap.within;
        by_snap = λ e read. snap-takes s.id e.act
            (takes-at_mark takes_in s.id log e (ap (slice_get log) at ∙ read));
      };
      identified = ap (λ n. in_force machine d (take (n + 1) log)) (sym at) ∙ is;
    }

finished-same : (s : Snapped) (id : ChangeId)
    → is_unfinished (Some (record { mark = s.mark; id = id })) (Some s) ≡ true → ⊥
finished-same s id unfinished = false≢true (sym (ap not (eq-eqb s.mark s.mark refl)) ∙ unfinished)

done-world : (w : World) (s : Snapped) (t : StageState) (id : ChangeId) → w.capacity < 2 ^ 64
    → IsSound w → HasStage w s t → t.flushed ≡ true → id_at w.machine w.disk s.id w.log ≡ Some id
    → IsSound (record w { base = Some (record { mark = s.mark; id = id }); stage = None })
done-world w s t id small sound has flushed is_id =
    let b : Base = record { mark = s.mark; id = id } in
    let snap_is = sound.snap_is s has.snap in
    record {
      legal = sound.legal;
      sized = sound.sized;
      base_is = λ base is. subst (λ (x : Base). HasId w.machine w.disk x.id w.log x.mark)
          (same_Some b base is) (has-id w.machine w.disk w.log s id snap_is is_id);
      base_has_snap = λ _. ap (λ (o : Option Snapped). is_some o) has.snap;
      snap_is = sound.snap_is;
      snap_from_base = λ snap is base is'.
          let one = same_Some s snap (sym has.snap ∙ is) in
          let two = same_Some b base is' in
          let same : base.mark ≡ snap.mark =
          sym (ap (λ (x : Base). x.mark) two) ∙ ap (λ (x : Snapped). x.mark) one in
          omega (arith, same);
      snap_lives = λ snap is unfinished.
          absurd (finished-same s id
          (subst (λ (x : Snapped). is_unfinished (Some b) (Some x) ≡ true)
          (sym (same_Some s snap (sym has.snap ∙ is))) unfinished));
      last_is_off = sound.last_is_off;
      stage_has_snap = λ some. absurd (false≢true some);
      stage_is = λ snap is t' is'. absurd (none-some t' is');
      complete_is = λ p is. absurd (not-complete w s t p has (sound.complete_is p is));
      staged = subst (λ (o : Option Snapped). Staged w.capacity w.disk w.log (Some b) o w.volume)
          (sym has.snap)
          (done-staged w.capacity w.disk w.log w.base s t w.volume id (stands-of w s t sound has)
          flushed);
    }

pub done-sound : (w : World) → w.capacity < 2 ^ 64 → IsSound w
    → Runs w (λ blocks snap t. t.flushed ≡ true) → IsSound (after_done w)
done-sound w small sound may =
    let parts = runs-parts w (λ blocks snap t. t.flushed ≡ true) may in
    let s = parts.0 in
    let t = parts.1 in
    let has = parts.2 in
    let id = some_value (id_at w.machine w.disk s.id w.log)
    ((sound.stage_is s has.snap t has.stage).has_id) in
    let step : Snapped → StageState → World → World =
    λ snap t w. record w {
      base = base_of snap.mark (id_at w.machine w.disk snap.id w.log);
      stage = None;
    } in
    let is : after_done w
    ≡ record w { base = Some (record { mark = s.mark; id = id.0 }); stage = None } =
    by_stage-is step w s t has
    ∙ ap (λ (o : Option ChangeId). record w { base = base_of s.mark o; stage = None }) id.1 in
    subst IsSound (sym is) (done-world w s t id.0 small sound has parts.3 id.1)
