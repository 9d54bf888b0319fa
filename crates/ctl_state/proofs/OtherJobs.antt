-- What a record leaves of other plans' cutovers and of other migrations' jobs.
use Rattle.std.proofs.Common.{◌≡◌, ◌≢◌, ℕ, ◌+◌, ◌==◌, List, [], ◌∷◌, ◌++◌, Bool, true, false, ◌&&◌, cond, not, Option, Some, None, refl, sym, ap, subst, ◌∙◌, length, arith}
use Rattle.std.specs.Prelude.{option_map, IsSomeAnd, Contains, unwrap_or}
use Rattle.std.specs.Option.{option_map_or}
use Rattle.std.proofs.lemmas.Bool.{eqb-true, eq-eqb, false≢true}
use Rattle.std.proofs.lemmas.Option.{none-some, same_Some}
use Rattle.phase_table.specs.declared.phases.Phase.TheVariants as Phases
use Rattle.plan_model.specs.declared.moment.Moment.{Moment}
use Rattle.plan_model.specs.declared.plan.Plan.{Plan}
use Rattle.plan_model.specs.declared.way.Cutover.{Cutover}
use Rattle.plan_model.specs.declared.way.Way.{Way}
use Rattle.plan_model.specs.declared.way.Way.TheVariants as Ways
use Rattle.plan_model.specs.Way.{due_way, way_number}
use Rattle.record_codec.specs.declared.record.Record.{Record}
use Rattle.record_codec.specs.declared.record.Record.TheVariants.{PlanMade, MigrationStarted, Chosen, SnapTaken, IdsStored, VolumesMade, CheckpointAdded, StageBegun, StageDone, Paused, SnapRemoved, CutoverSet, PowerStored, PoweredOff, OffSeen, FinalSnapTaken, CancelAsked, Ended}
use Rattle.record_codec.specs.Record.{migration_of}
use Rattle.ctl_state.specs.declared.migration.Migration.{Migration}
use Rattle.ctl_state.specs.declared.plans.PlanCourse.{PlanCourse}
use Rattle.ctl_state.specs.declared.ready.Job.{Job}
use Rattle.ctl_state.specs.declared.ready.Job.TheVariants.{Phase as PhaseJob, Clean}
use Rattle.ctl_state.specs.declared.task.PhaseTask.{PhaseTask}
use Rattle.ctl_state.specs.Migration.{same_phase, is_live, reached, current_snapshot, stored_place}
use Rattle.ctl_state.specs.Value.{CtlValue, numbered, change_numbered, migration_in, plan_in, course_in, new_course}
use Rattle.ctl_state.specs.MayStand.{record_may_stand}
use Rattle.ctl_state.specs.Fold.{after_record, with_started, with_ended, with_cutover, cutover_of, plan_of_migration}
use Rattle.ctl_state.specs.Ready.{due_between, way_due, is_copying, copy_jobs, jobs_of}
use Rattle.ctl_state.specs.Task.{good_end, task_of}
use Rattle.ctl_state.specs.Sound.{IsSoundValue}
use Rattle.ctl_state.specs.SoundLaws.{cutover_in, CutoversStay, OtherJobsStay}
use Rattle.ctl_state.proofs.FoldFacts.{others_stay}
use Rattle.ctl_state.proofs.ListFacts.{numbered-other, numbered-changed, numbered-before}
use Rattle.ctl_state.proofs.SoundValues.{numbered-past, plan-stays}

-- ---- cutovers

abbrev cutover_at : List PlanCourse → (plan : ℕ) → Option (Option Cutover)
cutover_at courses plan = option_map (λ course. course.cutover) (numbered courses plan)

mapped-same : (f : PlanCourse → PlanCourse) → ((c : PlanCourse) → (f c).cutover ≡ c.cutover)
    → (o : Option PlanCourse)
    → option_map (λ course. course.cutover) (option_map f o)
    ≡ option_map (λ course. course.cutover) o
mapped-same f same None = refl
mapped-same f same (Some c) = ap (λ (x : Option Cutover). Some x) (same c)

-- a change that leaves cutovers, of whatever plan
course-same : (f : PlanCourse → PlanCourse) → ((c : PlanCourse) → (f c).cutover ≡ c.cutover)
    → (courses : List PlanCourse) (n plan : ℕ)
    → cutover_at (change_numbered courses n f) plan ≡ cutover_at courses plan
course-same f same courses n plan = test (n == plan) refl
  where
    test : (b : Bool) → (n == plan) ≡ b
        → cutover_at (change_numbered courses n f) plan ≡ cutover_at courses plan
    test true e =
        let at = eqb-true n plan e in
        ap (λ (k : ℕ). cutover_at (change_numbered courses k f) plan) at
        ∙ ap (option_map (λ course. course.cutover)) (numbered-changed courses plan f)
        ∙ mapped-same f same (numbered courses plan)
    test false e = ap (option_map (λ course. course.cutover))
        (numbered-other courses n plan f (λ at. false≢true (sym e ∙ eq-eqb n plan at)))

cutovers-by : (v : CtlValue) (r : Record) (plan : ℕ) → (plan ≡ length v.courses + 1 → ⊥)
    → cutover_in r ≢ Some plan
    → cutover_at (after_record v r).courses plan ≡ cutover_at v.courses plan
cutovers-by v (PlanMade number name interval vms) plan known other =
    ap (option_map (λ course. course.cutover)) (numbered-before v.courses new_course plan known)
cutovers-by v (MigrationStarted mig number vm disks) plan known other =
    course-same with_started (λ c. refl) v.courses number plan
cutovers-by v (Chosen mig way at) plan known other = refl
cutovers-by v (SnapTaken mig snap mark) plan known other = refl
cutovers-by v (IdsStored mig ids) plan known other = refl
cutovers-by v (VolumesMade mig) plan known other = refl
cutovers-by v (CheckpointAdded mig previous current last) plan known other = refl
cutovers-by v (StageBegun mig disk) plan known other = refl
cutovers-by v (StageDone mig disk written) plan known other = refl
cutovers-by v (Paused mig at) plan known other = refl
cutovers-by v (SnapRemoved mig snap) plan known other = refl
cutovers-by v (CutoverSet number has at) plan known other =
    ap (option_map (λ course. course.cutover))
    (numbered-other v.courses number plan (with_cutover (cutover_of has at))
    (λ same. other (ap (λ (k : ℕ). Some k) same)))
cutovers-by v (PowerStored mig on) plan known other = refl
cutovers-by v (PoweredOff mig) plan known other = refl
cutovers-by v (OffSeen mig off) plan known other = refl
cutovers-by v (FinalSnapTaken mig snap mark place) plan known other = refl
cutovers-by v (CancelAsked mig) plan known other = refl
cutovers-by v (Ended mig how place) plan known other =
    course-same with_ended (λ c. refl) v.courses (plan_of_migration v mig) plan

plan-same : (v : CtlValue) (r : Record) (plan : ℕ) (found : Option Plan) → plan_in v plan ≡ found
    → found ≢ None → plan_in (after_record v r) plan ≡ plan_in v plan
plan-same v r plan None e there = absurd (there refl)
plan-same v r plan (Some p) e there = plan-stays v r plan p e ∙ sym e

not-past : (v : CtlValue) (plan : ℕ) → length v.courses ≡ length v.plans → plan_in v plan ≢ None
    → plan ≡ length v.courses + 1 → ⊥
not-past v plan paired there at =
    there (ap (numbered v.plans) (at ∙ ap (λ (n : ℕ). n + 1) paired) ∙ numbered-past v.plans)

pub cutovers_stay : CutoversStay
cutovers_stay v r plan s may there = record {
  plan_stays = plan-same v r plan (plan_in v plan) refl there;
  cutover_stays = λ other. cutovers-by v r plan (not-past v plan s.paired there) other;
}

-- ---- what is due

due-same : (now last : Moment) (plan : Plan) (one other : PlanCourse) → one.cutover ≡ other.cutover
    → due_between now last plan one ≡ due_between now last plan other
unfolding due_between
due-same now last plan one other e = ap (due_way now last plan.interval) e

way-by : (now : Moment) (last : Option Moment) (plan : Option Plan) (one other : Option PlanCourse)
    → option_map (λ course. course.cutover) one ≡ option_map (λ course. course.cutover) other
    → option_map_or (λ l. option_map_or
    (λ p. option_map_or (λ c. due_between now l p c) one Ways.Nothing) plan Ways.Nothing) last
    Ways.Nothing
    ≡ option_map_or (λ l. option_map_or
    (λ p. option_map_or (λ c. due_between now l p c) other Ways.Nothing) plan Ways.Nothing) last
    Ways.Nothing
way-by now None plan one other e = refl
way-by now (Some l) None one other e = refl
way-by now (Some l) (Some p) None None e = refl
way-by now (Some l) (Some p) None (Some b) e = absurd (none-some b.cutover e)
way-by now (Some l) (Some p) (Some a) None e = absurd (none-some a.cutover (sym e))
way-by now (Some l) (Some p) (Some a) (Some b) e =
    due-same now l p a b (same_Some a.cutover b.cutover e)

way-same : (v : CtlValue) (r : Record) (now : Moment) (m : Migration) → IsSoundValue v
    → record_may_stand v r ≡ true → plan_in v m.plan ≢ None → cutover_in r ≢ Some m.plan
    → way_due (after_record v r) now m ≡ way_due v now m
way-same v r now m s may there other =
    let stays = cutovers_stay v r m.plan s may there in
    way-by now m.last (plan_in (after_record v r) m.plan) (course_in (after_record v r) m.plan)
    (course_in v m.plan) (stays.cutover_stays other)
    ∙ ap (λ (p : Option Plan). option_map_or
    (λ l. option_map_or (λ q. option_map_or (λ c. due_between now l q c) (course_in v m.plan)
    Ways.Nothing) p Ways.Nothing) m.last Ways.Nothing) stays.plan_stays

-- ---- its jobs and its task

abbrev jobs_by : (m : Migration) → Way → List Job
jobs_by m w = cond (not (is_live m)) []
    (cond m.cancel (Clean m.number ∷ []) (cond (is_copying m) (copy_jobs m)
    (cond (same_phase m.phase Phases.CopyingPaused && way_number w == 0) []
    (PhaseJob m.number ∷ []))))

abbrev task_by : (now : Moment) (m : Migration) → Way → PhaseTask
task_by now m w = record {
  mig = m.number;
  phase = m.phase;
  snap = current_snapshot m;
  previous = reached m;
  last = same_phase m.phase Phases.AddFinalCheckpoint;
  disks = m.disks;
  way = cond (same_phase m.phase Phases.CopyingPaused) w Ways.Nothing;
  now = now;
  restore = unwrap_or m.power false;
  how = good_end m;
  place = stored_place m;
}

known : (vm : ℕ) (found : Option Plan) → IsSomeAnd found (λ plan. Contains plan.vms vm)
    → found ≢ None
known vm None h e = absurd h
known vm (Some p) h e = none-some p (sym e)

pub other_jobs_stay : OtherJobsStay
other_jobs_stay v r now mig m s may there other apart =
    let way = way-same v r now m s may
    (known m.vm (plan_in v m.plan) (s.migrations mig m there).planned) apart in
    record {
      migration = others_stay v r mig may other ∙ there;
      jobs = ap (jobs_by m) way;
      task = ap (task_by now m) way;
    }
