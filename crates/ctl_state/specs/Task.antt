-- What a job is told of its migration: all that its phase or its clean-up needs, so that whoever
-- does it looks at no state. 0 stands for a snapshot or a place that there isn't.
use Rattle.std.specs.Prelude.{ℕ, ◌==◌, Bool, true, false, Option, Some, None, unwrap_or, if◌then◌else◌}
use Rattle.phase_table.specs.declared.phases.Phase.TheVariants as Phases
use Rattle.plan_model.specs.declared.moment.Moment.{Moment}
use Rattle.plan_model.specs.declared.way.Way.{Way}
use Rattle.plan_model.specs.declared.way.Way.TheVariants as Ways
use Rattle.ctl_state.specs.declared.migration.Migration.{Migration}
use Rattle.ctl_state.specs.declared.migration.How.{How}
use Rattle.ctl_state.specs.declared.migration.How.TheVariants as Hows
use Rattle.ctl_state.specs.declared.task.PhaseTask.{PhaseTask}
use Rattle.ctl_state.specs.Migration.{same_phase, reached, current_snapshot, stored_place}
use Rattle.ctl_state.specs.Value.{CtlValue}
use Rattle.ctl_state.specs.Ready.{way_due}

-- the choice of a pause; elsewhere there is none
abbrev pub way_of : CtlValue → (now : Moment) → Migration → Way
way_of v now m =
    if same_phase m.phase Phases.CopyingPaused then way_due v now m else Ways.Nothing

-- how it ends where its work goes well: cancelled where that was asked for
abbrev pub good_end : Migration → How
good_end m = if m.cancel then Hows.Cancelled else Hows.Completed

abbrev pub task_of : CtlValue → (now : Moment) → Migration → PhaseTask
task_of v now m = record {
  mig = m.number;
  phase = m.phase;
  snap = current_snapshot m;
  previous = reached m;
  last = same_phase m.phase Phases.AddFinalCheckpoint;
  disks = m.disks;
  way = way_of v now m;
  now = now;
  restore = unwrap_or m.power false;
  how = good_end m;
  place = stored_place m;
}
