-- Which jobs may be done at a moment: in order of migration, then disk. A migration whose cancel
-- stands has its clean-up alone; one that copies has a job for each disk that is left.
use Rattle.std.specs.Prelude.{ℕ, ◌+◌, ◌==◌, ◌&&◌, not, Bool, true, false, List, [], ◌∷◌, map, Option, Some, None, if◌then◌else◌}
use Rattle.std.specs.List.{flat_map}
use Rattle.std.specs.Option.{option_map_or}
use Rattle.phase_table.specs.declared.phases.Phase.TheVariants as Phases
use Rattle.plan_model.specs.declared.moment.Moment.{Moment}
use Rattle.plan_model.specs.declared.plan.Plan.{Plan}
use Rattle.plan_model.specs.declared.way.Way.{Way}
use Rattle.plan_model.specs.declared.way.Way.TheVariants as Ways
use Rattle.plan_model.specs.Way.{due_way, way_number}
use Rattle.ctl_state.specs.declared.migration.Migration.{Migration}
use Rattle.ctl_state.specs.declared.plans.PlanCourse.{PlanCourse}
use Rattle.ctl_state.specs.declared.ready.Job.{Job}
use Rattle.ctl_state.specs.declared.ready.Job.TheVariants.{Phase, Copy, Clean}
use Rattle.ctl_state.specs.Migration.{same_phase, is_live, all_done, disks_left}
use Rattle.ctl_state.specs.Value.{CtlValue, plan_in, course_in}

unfoldable pub due_between : (now last : Moment) → Plan → PlanCourse → Way
due_between now last plan course = due_way now last plan.interval course.cutover

-- what is due for a migration whose last copy was at some moment; nothing where none was
abbrev pub way_due : CtlValue → (now : Moment) → Migration → Way
way_due v now m = option_map_or
    (λ last. option_map_or
    (λ plan. option_map_or (λ course. due_between now last plan course) (course_in v m.plan)
    Ways.Nothing)
    (plan_in v m.plan) Ways.Nothing)
    m.last Ways.Nothing

-- it waits until something is due
abbrev pub is_waiting : CtlValue → (now : Moment) → Migration → Bool
is_waiting v now m =
    same_phase m.phase Phases.CopyingPaused && way_number (way_due v now m) == 0

-- disks of it are to be copied: in the final copy, and in another as long as some are left
abbrev pub is_copying : Migration → Bool
is_copying m = if same_phase m.phase Phases.CopyFinal then true
    else same_phase m.phase Phases.CopyDisks && not (all_done m.copies)

abbrev pub copy_jobs : Migration → List Job
copy_jobs m = map (λ disk. Copy m.number disk) (disks_left m)

abbrev pub jobs_of : CtlValue → (now : Moment) → Migration → List Job
jobs_of v now m = if not (is_live m) then []
    else if m.cancel then Clean m.number ∷ []
    else if is_copying m then copy_jobs m
    else if is_waiting v now m then [] else Phase m.number ∷ []

abbrev pub ready : CtlValue → (now : Moment) → List Job
ready v now = flat_map (jobs_of v now) v.migrations
