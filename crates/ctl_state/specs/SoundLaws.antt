-- That every value of records is sound, and what stays of it under a record: cutovers but by their
-- own record, and the jobs and tasks of every other migration, also of one of the same plan.
use Rattle.std.specs.Prelude.{◌≡◌, ◌≢◌, ℕ, Bool, true, false, List, [], ◌∷◌, Option, Some, None, option_map, Ok}
use Rattle.plan_model.specs.declared.moment.Moment.{Moment}
use Rattle.record_codec.specs.declared.record.Record.{Record}
use Rattle.record_codec.specs.declared.record.Record.TheVariants.{PlanMade, MigrationStarted, Chosen, SnapTaken, IdsStored, VolumesMade, CheckpointAdded, StageBegun, StageDone, Paused, SnapRemoved, CutoverSet, PowerStored, PoweredOff, OffSeen, FinalSnapTaken, CancelAsked, Ended}
use Rattle.record_codec.specs.Record.{migration_of}
use Rattle.ctl_state.specs.declared.migration.Migration.{Migration}
use Rattle.ctl_state.specs.declared.migration.How.TheVariants as Hows
use Rattle.ctl_state.specs.Value.{CtlValue, migration_in, plan_in, course_in}
use Rattle.ctl_state.specs.MayStand.{may_step, record_may_stand}
use Rattle.ctl_state.specs.Steps.{new_migration, after_step}
use Rattle.ctl_state.specs.Fold.{after_record, after}
use Rattle.ctl_state.specs.Ready.{jobs_of}
use Rattle.ctl_state.specs.Task.{task_of}
use Rattle.ctl_state.specs.Sound.{IsSound, IsSoundValue}

-- ---- soundness

-- each step of a migration keeps it
abbrev pub StepsKeepSound : Type 0
StepsKeepSound = (m : Migration) (r : Record) → IsSound m → may_step m r ≡ true
    → IsSound (after_step m r)

-- and so does each record of a value
abbrev pub RecordsKeepSound : Type 0
RecordsKeepSound = (v : CtlValue) (r : Record) → IsSoundValue v → record_may_stand v r ≡ true
    → IsSoundValue (after_record v r)

abbrev pub ValuesAreSound : Type 0
ValuesAreSound = (records : List Record) (v : CtlValue) → after records ≡ Ok v → IsSoundValue v

-- ---- what stays

-- the plan whose cutover a record sets
abbrev pub cutover_in : Record → Option ℕ
cutover_in (CutoverSet plan has at) = Some plan
cutover_in (PlanMade plan name interval vms) = None
cutover_in (MigrationStarted mig plan vm disks) = None
cutover_in (Chosen mig way at) = None
cutover_in (SnapTaken mig snap mark) = None
cutover_in (IdsStored mig ids) = None
cutover_in (VolumesMade mig) = None
cutover_in (CheckpointAdded mig previous current last) = None
cutover_in (StageBegun mig disk) = None
cutover_in (StageDone mig disk written) = None
cutover_in (Paused mig at) = None
cutover_in (SnapRemoved mig snap) = None
cutover_in (PowerStored mig on) = None
cutover_in (PoweredOff mig) = None
cutover_in (OffSeen mig off) = None
cutover_in (FinalSnapTaken mig snap mark place) = None
cutover_in (CancelAsked mig) = None
cutover_in (Ended mig how place) = None

-- a plan that is known stays as it is, and so does its cutover, but by its own record
pub record PlanStays (old new : CtlValue) (r : Record) (plan : ℕ) : Type 0 where
  pub plan_stays : plan_in new plan ≡ plan_in old plan
  pub cutover_stays : cutover_in r ≢ Some plan
      → option_map (λ course. course.cutover) (course_in new plan)
      ≡ option_map (λ course. course.cutover) (course_in old plan)

abbrev pub CutoversStay : Type 0
CutoversStay = (v : CtlValue) (r : Record) (plan : ℕ) → IsSoundValue v
    → record_may_stand v r ≡ true → plan_in v plan ≢ None → PlanStays v (after_record v r) r plan

-- another migration's jobs and tasks stay, but by a cutover of its plan
pub record JobStays (old new : CtlValue) (now : Moment) (mig : ℕ) (m : Migration) : Type 0 where
  pub migration : migration_in new mig ≡ Some m
  pub jobs : jobs_of new now m ≡ jobs_of old now m
  pub task : task_of new now m ≡ task_of old now m

abbrev pub OtherJobsStay : Type 0
OtherJobsStay = (v : CtlValue) (r : Record) (now : Moment) (mig : ℕ) (m : Migration)
    → IsSoundValue v → record_may_stand v r ≡ true → migration_in v mig ≡ Some m
    → migration_of r ≢ Some mig → cutover_in r ≢ Some m.plan
    → JobStays v (after_record v r) now mig m

-- of its own task a cancel changes nothing but the end
abbrev pub CancelLeavesTask : Type 0
CancelLeavesTask = (v : CtlValue) (now : Moment) (m : Migration)
    → task_of v now (after_step m (CancelAsked m.number))
    ≡ record (task_of v now m) { how = Hows.Cancelled }
