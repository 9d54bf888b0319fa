-- Where each kind of record may stand. The records of one migration are tested against it alone;
-- those that make a plan or a migration, and those that set a cutover, against plans and numbers.
-- After a cancel was asked for, nothing stands but stages that were begun, and the end.
use Rattle.std.specs.Prelude.{ℕ, ◌+◌, ◌==◌, ◌&&◌, ◌||◌, not, nat_lt, nat_le, Bool, true, false, List, [], ◌∷◌, length, Option, Some, None, is_none, is_some, slice_get, count_by, if◌then◌else◌}
use Rattle.std.specs.List.{list_all, list_any}
use Rattle.std.specs.Option.{option_map_or}
use Rattle.basics.specs.declared.limits.TheConstants.{MAX_DISKS}
use Rattle.change_id.specs.declared.ChangeId.{ChangeId}
use Rattle.checkpoints.specs.DataVolume.{add_refusal}
use Rattle.phase_table.specs.declared.phases.Phase.{Phase}
use Rattle.phase_table.specs.declared.phases.Phase.TheVariants as Phases
use Rattle.plan_model.specs.declared.plan.Plan.{Plan}
use Rattle.plan_model.specs.Plans.{is_taken}
use Rattle.record_codec.specs.declared.record.Record.{Record}
use Rattle.record_codec.specs.declared.record.Record.TheVariants.{PlanMade, MigrationStarted, Chosen, SnapTaken, IdsStored, VolumesMade, CheckpointAdded, StageBegun, StageDone, Paused, SnapRemoved, CutoverSet, PowerStored, PoweredOff, OffSeen, FinalSnapTaken, CancelAsked, Ended}
use Rattle.record_codec.specs.declared.record.Kind.TheVariants.{Ended as EndedKind}
use Rattle.record_codec.specs.Record.{migration_of, kind_of, kind_byte}
use Rattle.ctl_state.specs.declared.copies.TheConstants.{MAX_STAGE_SECTORS}
use Rattle.ctl_state.specs.declared.migration.Migration.{Migration}
use Rattle.ctl_state.specs.declared.plans.PlanCourse.{PlanCourse}
use Rattle.ctl_state.specs.Migration.{same_phase, is_live, reached, current_snapshot, stored_place, is_left, is_being_copied, all_done}
use Rattle.ctl_state.specs.Steps.{how_number}
use Rattle.ctl_state.specs.declared.migration.How.TheVariants as Hows
use Rattle.plan_model.specs.declared.way.Way.TheVariants as Ways
use Rattle.plan_model.specs.Way.{way_number}
use Rattle.ctl_state.specs.Value.{CtlValue, numbered, migration_in, plan_in, course_in, is_at_work, is_listed}

-- the migration is in this phase, and no cancel stands
abbrev pub goes_on_in : Migration → Phase → Bool
goes_on_in m phase = not m.cancel && same_phase m.phase phase

-- it copies disks
abbrev pub copies_disks : Migration → Bool
copies_disks m = same_phase m.phase Phases.CopyDisks || same_phase m.phase Phases.CopyFinal

-- the choice may be made: the first copy once, the others at each pause
abbrev pub may_choose : Migration → (way : ℕ) → Bool
may_choose m way = (goes_on_in m Phases.Started && way == way_number Ways.Nothing)
    || (goes_on_in m Phases.CopyingPaused
    && (way == way_number Ways.Precopy || way == way_number Ways.Cutover))

-- a later snapshot than that of the last checkpoint
abbrev pub is_later : Migration → (snap : ℕ) → Bool
is_later m snap = nat_lt (reached m) snap

abbrev pub may_take : Migration → (snap : ℕ) → Bool
may_take m snap =
    (goes_on_in m Phases.CreateInitialSnapshot || goes_on_in m Phases.CreateSnapshot)
    && is_later m snap

-- each identifier has a number from 1 on
abbrev pub have_numbers : List ChangeId → Bool
have_numbers ids = list_all (λ id. nat_lt 0 id.seq) ids

-- one identifier a disk
abbrev pub may_store : Migration → List ChangeId → Bool
may_store m ids = (goes_on_in m Phases.StoreInitialIds || goes_on_in m Phases.StoreIds)
    && (length ids == m.disks && have_numbers ids)

-- the snapshot is the current one
abbrev pub is_current : Migration → (snap : ℕ) → Bool
is_current m snap = option_map_or (λ current. current == snap) m.snap false

-- the phase adds such a checkpoint: a final one, or one that others follow
abbrev pub adds_checkpoint : Migration → (last : Bool) → Bool
adds_checkpoint m last = if last then goes_on_in m Phases.AddFinalCheckpoint
    else goes_on_in m Phases.AddFirstCheckpoint || goes_on_in m Phases.AddCheckpoint

abbrev pub may_add : Migration → (previous current : ℕ) (last : Bool) → Bool
may_add m previous current last = adds_checkpoint m last
    && (is_current m current && is_none (add_refusal m.dv previous current))

abbrev pub may_begin : Migration → (disk : ℕ) → Bool
may_begin m disk = not m.cancel && (copies_disks m && is_left m disk)

-- also after a cancel, as the stage that was begun may end
abbrev pub may_finish : Migration → (disk written : ℕ) → Bool
may_finish m disk written =
    copies_disks m && (is_being_copied m disk && nat_le written MAX_STAGE_SECTORS)

abbrev pub may_pause : Migration → Bool
may_pause m = goes_on_in m Phases.CopyDisks && all_done m.copies

abbrev pub may_remove : Migration → (snap : ℕ) → Bool
may_remove m snap =
    (goes_on_in m Phases.RemovePreviousSnapshot || goes_on_in m Phases.RemovePenultimateSnapshot)
    && snap == current_snapshot m

-- whether the machine is off is what its wait looks at; the final snapshot finds that it is on
abbrev pub may_see : Migration → (off : Bool) → Bool
may_see m off = goes_on_in m Phases.WaitForPowerOff
    || (not off && goes_on_in m Phases.CreateFinalSnapshot)

abbrev pub may_take_final : Migration → (snap mark place : ℕ) → Bool
may_take_final m snap mark place =
    goes_on_in m Phases.CreateFinalSnapshot && (nat_lt place mark && is_later m snap)

abbrev pub may_cancel : Migration → Bool
may_cancel m = is_live m && not m.cancel

-- the number of an end that is a failure
abbrev pub is_failure : (how : ℕ) → Bool
is_failure how = how == how_number Hows.FailedVolume || how == how_number Hows.FailedSpent

-- completed with the stored place, after its last phase; cancelled where that was asked for; failed
-- where it wasn't
abbrev pub may_end : Migration → (how place : ℕ) → Bool
may_end m how place = is_live m
    && (if how == how_number Hows.Completed
    then goes_on_in m Phases.RemoveFinalSnapshot && place == stored_place m
    else place == 0
    && (if how == how_number Hows.Cancelled then m.cancel else is_failure how && not m.cancel))

-- the record of a migration may stand where the migration is so
abbrev pub may_step : Migration → Record → Bool
may_step m (PlanMade plan name interval vms) = false
may_step m (MigrationStarted mig plan vm disks) = false
may_step m (Chosen mig way at) = may_choose m way
may_step m (SnapTaken mig snap mark) = may_take m snap
may_step m (IdsStored mig ids) = may_store m ids
may_step m (VolumesMade mig) = goes_on_in m Phases.CreateVolumes
may_step m (CheckpointAdded mig previous current last) = may_add m previous current last
may_step m (StageBegun mig disk) = may_begin m disk
may_step m (StageDone mig disk written) = may_finish m disk written
may_step m (Paused mig at) = may_pause m
may_step m (SnapRemoved mig snap) = may_remove m snap
may_step m (CutoverSet plan has at) = false
may_step m (PowerStored mig on) = goes_on_in m Phases.StorePowerState
may_step m (PoweredOff mig) = goes_on_in m Phases.PowerOffSource
may_step m (OffSeen mig off) = may_see m off
may_step m (FinalSnapTaken mig snap mark place) = may_take_final m snap mark place
may_step m (CancelAsked mig) = may_cancel m
may_step m (Ended mig how place) = may_end m how place

-- the record ends a migration
abbrev pub ends : Record → Bool
ends r = kind_byte (kind_of r) == kind_byte EndedKind

-- a migration of this number is there, and the record may stand for it
abbrev pub may_step_at : List Migration → (mig : ℕ) → Record → Bool
may_step_at migrations mig r =
    option_map_or (λ m. may_step m r) (numbered migrations mig) false

abbrev pub may_step_in : CtlValue → (mig : ℕ) → Record → Bool
may_step_in v mig r = may_step_at v.migrations mig r

-- a machine stands again later in the list
abbrev pub has_double : (vms : List ℕ) → Bool
has_double [] = false
has_double (vm ∷ vms) = is_listed vms vm || has_double vms

-- the number is the next one, and the name is new
abbrev pub is_new_plan : CtlValue → (plan : ℕ) (name : List ℕ) → Bool
is_new_plan v plan name = plan == length v.plans + 1 && not (is_taken name v.plans)

-- there is a machine or more, and none is in some plan's unfinished work
abbrev pub are_free : CtlValue → (vms : List ℕ) → Bool
are_free v vms = nat_lt 0 (length vms) && not (list_any (is_at_work v) vms)

-- the machines of a new plan are free, and differ
abbrev pub may_plan : CtlValue → (plan : ℕ) (name vms : List ℕ) → Bool
may_plan v plan name vms = is_new_plan v plan name && (are_free v vms && not (has_double vms))

-- the machine is the first of the plan that has no migration in it
abbrev pub is_next_of : (vm : ℕ) → Plan → PlanCourse → Bool
is_next_of vm plan course =
    option_map_or (λ next. next == vm) (slice_get plan.vms course.started) false

abbrev pub is_next : CtlValue → (plan vm : ℕ) → Bool
is_next v plan vm = option_map_or
    (λ known. option_map_or (λ course. is_next_of vm known course) (course_in v plan) false)
    (plan_in v plan) false

abbrev pub may_start : CtlValue → (mig plan vm disks : ℕ) → Bool
may_start v mig plan vm disks = mig == length v.migrations + 1
    && (is_next v plan vm && (nat_lt 0 disks && nat_le disks MAX_DISKS))

-- a plan has a migration, and one that is live
abbrev pub may_cut_over : CtlValue → (plan : ℕ) (has : Bool) (at : ℕ) → Bool
may_cut_over v plan has at =
    option_map_or (λ course. nat_lt 0 course.live) (course_in v plan) false && (has || at == 0)

-- what names no plan stands or falls with its migration
abbrev pub record_may_stand : CtlValue → Record → Bool
record_may_stand v (PlanMade plan name interval vms) = may_plan v plan name vms
record_may_stand v (MigrationStarted mig plan vm disks) = may_start v mig plan vm disks
record_may_stand v (CutoverSet plan has at) = may_cut_over v plan has at
record_may_stand v r = option_map_or (λ mig. may_step_in v mig r) (migration_of r) false
