-- What a job says may stand in the state that its task was made from.
use Rattle.std.proofs.Common.{◌≡◌, ℕ, zero, suc, ◌+◌, ◌<◌, ◌≤◌, ◌==◌, List, [], ◌∷◌, Bool, true, false, ◌&&◌, ◌||◌, cond, not, Option, Some, None, refl, sym, ap, subst, ◌∙◌, length, map, arith}
use Rattle.std.specs.Prelude.{is_none, unwrap_or, nat_lt, nat_le, IsSome, IsSomeAnd, option_and_then}
use Rattle.std.specs.List.{list_all, filter_map, range_with_len}
use Rattle.std.specs.Option.{option_map_or}
use Rattle.std.proofs.lemmas.Bool.{or_right, lt-ltb, false≢true}
use Rattle.std.proofs.lemmas.Option.{none-some}
use Rattle.change_id.specs.declared.ChangeId.{ChangeId}
use Rattle.change_id.specs.ChangeId.{packed}
use Rattle.checkpoints.specs.declared.checkpoint.CheckRefused.{CheckRefused}
use Rattle.checkpoints.specs.declared.checkpoint.CheckRefused.TheVariants.{Order, Final}
use Rattle.log_model.specs.declared.entry.Entry.{Entry}
use Rattle.log_model.specs.Legal.{machine_on, taken}
use Rattle.log_model.specs.Marks.{id_at}
use Rattle.log_model.specs.Frozen.{last_off}
use Rattle.log_model.specs.Refusals.{is_spent, is_live as snapshot_is_live}
use Rattle.log_model.specs.Laws.{HasOffPlace}
use Rattle.log_model.proofs.OffPlace.{off_has_place}
use Rattle.phase_table.specs.declared.phases.Phase.{Phase}
use Rattle.phase_table.specs.declared.phases.Phase.TheVariants.{Started, CreateInitialSnapshot, StoreInitialIds, CreateVolumes, AddFirstCheckpoint, CopyDisks, CopyingPaused, RemovePreviousSnapshot, CreateSnapshot, StoreIds, AddCheckpoint, StorePowerState, PowerOffSource, WaitForPowerOff, RemovePenultimateSnapshot, CreateFinalSnapshot, AddFinalCheckpoint, CopyFinal, RemoveFinalSnapshot, Completed, Cancelled, Failed}
use Rattle.phase_table.specs.Phases.{is_end}
use Rattle.plan_model.specs.declared.moment.Moment.{Moment}
use Rattle.plan_model.specs.declared.way.Way.{Way}
use Rattle.plan_model.specs.declared.way.Way.TheVariants as Ways
use Rattle.plan_model.specs.Way.{way_number}
use Rattle.record_codec.specs.declared.record.Record.{Record}
use Rattle.record_codec.specs.declared.record.Record.TheVariants.{Chosen, SnapTaken, IdsStored, VolumesMade, CheckpointAdded, Paused, SnapRemoved, PowerStored, PoweredOff, OffSeen, FinalSnapTaken, Ended}
use Rattle.ctl_state.specs.declared.migration.Migration.{Migration}
use Rattle.ctl_state.specs.declared.migration.How.{How}
use Rattle.ctl_state.specs.declared.migration.How.TheVariants as Hows
use Rattle.ctl_state.specs.declared.ready.Job.{Job}
use Rattle.ctl_state.specs.declared.ready.Job.TheVariants.{Phase as PhaseJob, Copy, Clean}
use Rattle.ctl_state.specs.declared.task.PhaseTask.{PhaseTask}
use Rattle.ctl_state.specs.Migration.{same_phase, reached, all_done, is_live, current_snapshot, stored_place, disks_left}
use Rattle.ctl_state.specs.Value.{CtlValue}
use Rattle.ctl_state.specs.Ready.{way_due, is_copying, is_waiting, copy_jobs, jobs_of}
use Rattle.ctl_state.specs.Task.{task_of, good_end}
use Rattle.ctl_state.specs.Steps.{how_number}
use Rattle.ctl_state.specs.MayStand.{may_step, may_end}
use Rattle.ctl_state.specs.Sound.{IsSound, FitsPhase, is_open}
use Rattle.ctl_state.specs.Effect.{Effect, PhaseWork, work_in, phase_work, phase_at, ids_at}
use Rattle.ctl_state.specs.CleanUp.{is_clean_up, failing_task}
use Rattle.ctl_state.specs.EffectLaws.{is_work, has_job, TaskTellsJob, TasksTellJobs, record_of, HasForJob, PhasesMayStand, MayCleanUp, CleanUpsMayStand}
use Rattle.ctl_state.proofs.SoundMoves.{is-at, closed}
use Rattle.ctl_state.proofs.SoundSteps.{live-fits}

-- ---- which job there is

nothing-there : {X : Type 0} (x : X) → [] ≡ x ∷ [] → ⊥
nothing-there x e = cc

no-copy : (number disk : ℕ) (rest : List Job) → Copy number disk ∷ rest ≡ PhaseJob number ∷ [] → ⊥
no-copy number disk rest e = cc

no-clean : (number : ℕ) → Clean number ∷ [] ≡ PhaseJob number ∷ [] → ⊥
no-clean number e = cc

no-phase : (number : ℕ) → PhaseJob number ∷ [] ≡ Clean number ∷ [] → ⊥
no-phase number e = cc

no-copy-clean : (number disk : ℕ) (rest : List Job) → Copy number disk ∷ rest ≡ Clean number ∷ []
    → ⊥
no-copy-clean number disk rest e = cc

copies-none : (number : ℕ) (disks : List ℕ)
    → map (λ disk. Copy number disk) disks ≡ PhaseJob number ∷ [] → ⊥
copies-none number [] e = nothing-there (PhaseJob number) e
copies-none number (d ∷ disks) e = no-copy number d (map (λ disk. Copy number disk) disks) e

copies-not-clean : (number : ℕ) (disks : List ℕ)
    → map (λ disk. Copy number disk) disks ≡ Clean number ∷ [] → ⊥
copies-not-clean number [] e = nothing-there (Clean number) e
copies-not-clean number (d ∷ disks) e =
    no-copy-clean number d (map (λ disk. Copy number disk) disks) e

pub record IsPhaseJob (v : CtlValue) (now : Moment) (m : Migration) : Type 0 where
  pub live : is_live m ≡ true
  pub not_cancelled : m.cancel ≡ false
  pub not_copying : is_copying m ≡ false
  pub not_waiting : is_waiting v now m ≡ false

abbrev jobs_by : (live cancel copying waiting : Bool) (number : ℕ) (disks : List ℕ) → List Job
jobs_by live cancel copying waiting number disks =
    cond (not live) [] (cond cancel (Clean number ∷ [])
    (cond copying (map (λ disk. Copy number disk) disks) (cond waiting [] (PhaseJob number ∷ []))))

by-phase-job : (live cancel copying waiting : Bool) (number : ℕ) (disks : List ℕ)
    → jobs_by live cancel copying waiting number disks ≡ PhaseJob number ∷ []
    → (live ≡ true) × (cancel ≡ false) × (copying ≡ false) × (waiting ≡ false)
by-phase-job false cancel copying waiting number disks e =
    absurd (nothing-there (PhaseJob number) e)
by-phase-job true true copying waiting number disks e = absurd (no-clean number e)
by-phase-job true false true waiting number disks e = absurd (copies-none number disks e)
by-phase-job true false false true number disks e = absurd (nothing-there (PhaseJob number) e)
by-phase-job true false false false number disks e = (refl, refl, refl, refl)

by-clean-job : (live cancel copying waiting : Bool) (number : ℕ) (disks : List ℕ)
    → jobs_by live cancel copying waiting number disks ≡ Clean number ∷ [] → cancel ≡ true
by-clean-job false cancel copying waiting number disks e = absurd (nothing-there (Clean number) e)
by-clean-job true true copying waiting number disks e = refl
by-clean-job true false true waiting number disks e = absurd (copies-not-clean number disks e)
by-clean-job true false false true number disks e = absurd (nothing-there (Clean number) e)
by-clean-job true false false false number disks e = absurd (no-phase number e)

pub phase-job : (v : CtlValue) (now : Moment) (m : Migration)
    → jobs_of v now m ≡ PhaseJob m.number ∷ [] → IsPhaseJob v now m
phase-job v now m e =
    let by = by-phase-job (is_live m) m.cancel (is_copying m) (is_waiting v now m) m.number
    (disks_left m) e in
    record { live = by.0; not_cancelled = by.1; not_copying = by.2; not_waiting = by.3 }

removal-works : (b : Bool) (says calls : PhaseWork) → is_work says ≡ true → is_work calls ≡ true
    → is_work (cond b says calls) ≡ true
removal-works true says calls s c = s
removal-works false says calls s c = c

works : (p : Phase) (machine : ℕ) (task : PhaseTask) → is_end p ≡ false
    → same_phase p CopyFinal ≡ false → is_work (work_in p machine task) ≡ true
unfolding same_phase
works CopyFinal machine task live copy = absurd (false≢true (sym copy))
works Completed machine task live copy = absurd (false≢true (sym live))
works Cancelled machine task live copy = absurd (false≢true (sym live))
works Failed machine task live copy = absurd (false≢true (sym live))
works RemovePreviousSnapshot machine task live copy = removal-works (task.snap == 0) _ _ refl refl
works RemovePenultimateSnapshot machine task live copy =
    removal-works (task.snap == 0) _ _ refl refl
works _ machine task live copy = refl

not-final : (b c : Bool) → cond b true c ≡ false → b ≡ false
not-final true c e = absurd (false≢true (sym e))
not-final false c e = refl

pub tasks_tell_jobs : TasksTellJobs
tasks_tell_jobs v now m = record {
  of_phase = λ e. ap (λ (b : Bool). nat_lt 0 (how_number (cond b Hows.Cancelled Hows.Completed)))
      (phase-job v now m e).not_cancelled;
  of_clean_up = λ e. ap (λ (b : Bool). nat_lt 0 (how_number (cond b Hows.Cancelled Hows.Completed)))
      (by-clean-job (is_live m) m.cancel (is_copying m) (is_waiting v now m) m.number (disks_left m)
      e);
  has_job = λ s e machine.
      let job = phase-job v now m e in
      let works_so = works m.phase machine (task_of v now m) (live-fits m.how m job.live s.now).live
      (not-final (same_phase m.phase CopyFinal) _ job.not_copying) in
      or_right (is_clean_up (task_of v now m)) _ works_so;
  of_failure = λ how h. lt-ltb 0 (how_number how) h;
}
