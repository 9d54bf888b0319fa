-- What holds of phases and clean-ups together. Where nobody shares the machine a job leaves one
-- thing and says one thing. Calls only go on. And what a job says may stand in the state that its
-- task was made from, so whoever does jobs in turn never meets a strange record of its own.
use Rattle.std.specs.Prelude.{◌≡◌, ℕ, ◌<◌, ◌≤◌, ◌||◌, Bool, true, false, List, [], ◌∷◌, Option, Some, None, IsSome}
use Rattle.log_model.specs.declared.entry.Entry.{Entry}
use Rattle.log_model.specs.Legal.{taken}
use Rattle.log_model.specs.Marks.{id_at}
use Rattle.log_model.specs.Link.{LinkState, FollowsFrom}
use Rattle.phase_table.specs.declared.phases.Phase.TheVariants as Phases
use Rattle.plan_model.specs.declared.moment.Moment.{Moment}
use Rattle.record_codec.specs.declared.record.Record.{Record}
use Rattle.record_codec.specs.declared.record.Record.TheVariants.{VolumesMade, Ended}
use Rattle.ctl_state.specs.declared.migration.Migration.{Migration}
use Rattle.ctl_state.specs.declared.migration.How.{How}
use Rattle.ctl_state.specs.declared.migration.How.TheVariants as Hows
use Rattle.ctl_state.specs.declared.ready.Job.TheVariants.{Phase, Clean}
use Rattle.ctl_state.specs.declared.task.Did.{Did}
use Rattle.ctl_state.specs.declared.task.Did.TheVariants as Dids
use Rattle.ctl_state.specs.declared.task.PhaseTask.{PhaseTask}
use Rattle.ctl_state.specs.Migration.{same_phase, is_live, reached, current_snapshot}
use Rattle.ctl_state.specs.MayStand.{may_step}
use Rattle.ctl_state.specs.Ready.{jobs_of}
use Rattle.ctl_state.specs.Steps.{how_number}
use Rattle.ctl_state.specs.Task.{task_of}
use Rattle.ctl_state.specs.Value.{CtlValue}
use Rattle.ctl_state.specs.Sound.{IsSound}
use Rattle.ctl_state.specs.Effect.{PhaseWork, no_job, says, by_call, Effect, phase_work, phase_at}
use Rattle.ctl_state.specs.CleanUp.{is_clean_up, failing_task, HasEffect, HasBegun}

-- ---- one solution

abbrev pub is_work : PhaseWork → Bool
is_work no_job = false
is_work (says did) = true
is_work (by_call effect) = true

-- the task is of a clean-up, or of a phase that has a job
abbrev pub has_job : (machine : ℕ) → PhaseTask → Bool
has_job machine task = is_clean_up task || is_work (phase_work machine task)

abbrev pub EffectsAreOne : Type 0
EffectsAreOne = (task : PhaseTask) (old one other : LinkState) (did said : Did)
    → old.unshared ≡ true → has_job old.machine task ≡ true
    → HasEffect task old one did → HasEffect task old other said
    → (one ≡ other) × (did ≡ said)

-- ---- calls go on

abbrev pub EffectsGoOn : Type 0
EffectsGoOn = (task : PhaseTask) (old new : LinkState) (did : Did)
    → HasEffect task old new did → FollowsFrom old new

abbrev pub BegunGoOn : Type 0
BegunGoOn = (task : PhaseTask) (old new : LinkState) → HasBegun task old new
    → FollowsFrom old new

-- ---- a task tells its job

pub record TaskTellsJob (v : CtlValue) (now : Moment) (m : Migration) : Type 0 where
  pub of_phase : jobs_of v now m ≡ Phase m.number ∷ [] → is_clean_up (task_of v now m) ≡ false
  pub of_clean_up : jobs_of v now m ≡ Clean m.number ∷ [] → is_clean_up (task_of v now m) ≡ true
  -- the phase has a job of its own
  pub has_job : IsSound m → jobs_of v now m ≡ Phase m.number ∷ [] → (machine : ℕ)
      → has_job machine (task_of v now m) ≡ true
  -- a failure's task is a clean-up's, whatever task it comes from
  pub of_failure : (how : How) → 0 < how_number how
      → is_clean_up (failing_task how (task_of v now m)) ≡ true

abbrev pub TasksTellJobs : Type 0
TasksTellJobs = (v : CtlValue) (now : Moment) (m : Migration) → TaskTellsJob v now m

-- ---- what is said may stand

-- the record that comes of what was said: volumes that are to be made are made first
abbrev pub record_of : (mig : ℕ) → Did → Option Record
record_of mig (Dids.Record r) = Some r
record_of mig Dids.MakeVolumes = Some (VolumesMade mig)
record_of mig Dids.Spent = None

-- it is in a phase that stores identifiers
abbrev pub stores_ids : Migration → Bool
stores_ids m = same_phase m.phase Phases.StoreInitialIds || same_phase m.phase Phases.StoreIds

-- what a job needs of the log: the snapshot of the last checkpoint was taken, and where identifiers
-- are to be stored, each disk has one
pub record HasForJob (machine : ℕ) (m : Migration) (log : List Entry) : Type 0 where
  pub taken : reached m ≤ taken log
  pub named : stores_ids m ≡ true → (disk : ℕ) → disk < m.disks
      → IsSome (id_at machine disk (current_snapshot m) log)

abbrev pub PhasesMayStand : Type 0
PhasesMayStand = (v : CtlValue) (now : Moment) (m : Migration) (machine : ℕ) (log : List Entry)
    (effect : Effect) (r : Record)
    → IsSound m → jobs_of v now m ≡ Phase m.number ∷ [] → HasForJob machine m log
    → phase_at machine (task_of v now m) log ≡ Some effect
    → record_of m.number effect.did ≡ Some r → may_step m r ≡ true

-- a clean-up may end the migration so: cancelled where that was asked for, failed where it wasn't
abbrev pub MayCleanUp : How → Migration → Type 0
MayCleanUp Hows.Completed m = ⊥
MayCleanUp Hows.Cancelled m = m.cancel ≡ true
MayCleanUp Hows.FailedVolume m = m.cancel ≡ false
MayCleanUp Hows.FailedSpent m = m.cancel ≡ false

abbrev pub CleanUpsMayStand : Type 0
CleanUpsMayStand = (m : Migration) (how : How) → is_live m ≡ true → MayCleanUp how m
    → may_step m (Ended m.number (how_number how) 0) ≡ true
