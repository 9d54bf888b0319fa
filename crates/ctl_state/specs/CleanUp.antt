-- What a clean-up does on its machine: it removes what the migration left there, powers the machine
-- on again where the cutover had powered it off, and ends the migration. Its removals are those of
-- the snapshots that were live as it began: nobody else takes or removes a migration's. It is a job
-- as a phase is, so what a job of either kind leaves stands here too.
use Rattle.std.specs.Prelude.{◌≡◌, ℕ, ◌+◌, ◌==◌, ◌&&◌, not, nat_lt, Bool, true, false, List, [], ◌∷◌, ◌++◌, map, take, Option, Some, None, if◌then◌else◌}
use Rattle.std.specs.List.{filter, range_with_len}
use Rattle.log_model.specs.declared.entry.Owner.{Owner}
use Rattle.log_model.specs.declared.entry.Owner.TheVariants.{Operator, Migration}
use Rattle.log_model.specs.declared.entry.Act.{Act}
use Rattle.log_model.specs.declared.entry.Act.TheVariants.{Remove, On}
use Rattle.log_model.specs.declared.entry.Entry.{Entry}
use Rattle.log_model.specs.Legal.{machine_on, taken, owner_of}
use Rattle.log_model.specs.Refusals.{is_spent, is_live}
use Rattle.log_model.specs.Link.{LinkState, IsCall}
use Rattle.record_codec.specs.declared.record.Record.TheVariants.{Ended}
use Rattle.ctl_state.specs.declared.migration.How.{How}
use Rattle.ctl_state.specs.declared.migration.How.TheVariants as Hows
use Rattle.ctl_state.specs.declared.task.Did.{Did}
use Rattle.ctl_state.specs.declared.task.Did.TheVariants as Dids
use Rattle.ctl_state.specs.declared.task.PhaseTask.{PhaseTask}
use Rattle.ctl_state.specs.Steps.{how_number}
use Rattle.ctl_state.specs.Effect.{PhaseWork, no_job, says, by_call, Effect, phase_work, entries_by, HasWorked}

-- a task tells by its end whether it is a phase's or a clean-up's: only a phase's goes on to
-- completion
abbrev pub is_clean_up : PhaseTask → Bool
is_clean_up task = nat_lt (how_number Hows.Completed) (how_number task.how)

-- the clean-up of a failure, in place of the task that the migration has
abbrev pub failing_task : How → PhaseTask → PhaseTask
failing_task how task = record task { how = how }

-- ---- its calls

abbrev pub is_of : (mig : ℕ) → Option Owner → Bool
is_of mig None = false
is_of mig (Some Operator) = false
is_of mig (Some (Migration number)) = number == mig

-- the live snapshots of the migration, ascending
abbrev pub owned_snapshots : (mig : ℕ) → List Entry → List ℕ
owned_snapshots mig log =
    filter (λ snap. is_of mig (owner_of snap log)) (range_with_len 1 (taken log))

-- what a full log has no room for is left as it is
abbrev pub removal_at : (snap : ℕ) → List Entry → Option Act
removal_at snap log =
    if is_live snap log && not (is_spent log) then Some (Remove snap) else None

-- the last call powers the machine on, where it is off and was on before the cutover
abbrev pub restore_at : (restore : Bool) → List Entry → Option Act
restore_at restore log =
    if restore && (not (machine_on log) && not (is_spent log)) then Some On else None

abbrev pub cleaning_calls : PhaseTask → List Entry → List (List Entry → Option Act)
cleaning_calls task log =
    map removal_at (owned_snapshots task.mig log) ++ restore_at task.restore ∷ []

-- ---- what it leaves

-- calls in a row, each of which sees the log at its own moment and adds there what it says
abbrev pub AddInARow : List (List Entry → Option Act) → (old new : LinkState) → Type 0
AddInARow [] old new = new ≡ old
AddInARow (call ∷ calls) old new = (between : LinkState) × (log : List Entry)
    × IsCall log (entries_by old.caller (call log)) old between × AddInARow calls between new

-- it ends the migration as its task says, and tells no place
abbrev pub clean_up_did : PhaseTask → Did
clean_up_did task = Dids.Record (Ended task.mig (how_number task.how) 0)

pub record CleansUp (task : PhaseTask) (old new : LinkState) (did : Did) : Type 0 where
  pub adds : AddInARow (cleaning_calls task old.seen) old new
  pub says : did ≡ clean_up_did task

-- ---- a job of either kind

abbrev pub HasDone : (cleans : Bool) → PhaseTask → (old new : LinkState) → Did → Type 0
HasDone true task old new did = CleansUp task old new did
HasDone false task old new did = HasWorked (phase_work old.machine task) old new did

-- what the job of a task leaves of its link, and what it says
abbrev pub HasEffect : PhaseTask → (old new : LinkState) → Did → Type 0
HasEffect task old new did = HasDone (is_clean_up task) task old new did

-- the calls that a job makes to add something
abbrev pub calls_of_work : PhaseWork → List (List Entry → Option Act)
calls_of_work no_job = []
calls_of_work (says did) = []
calls_of_work (by_call effect) = (λ log. (effect log).act) ∷ []

abbrev pub calls_of : PhaseTask → LinkState → List (List Entry → Option Act)
calls_of task link = if is_clean_up task then cleaning_calls task link.seen
    else calls_of_work (phase_work link.machine task)

abbrev pub no_act : List Entry → Option Act
no_act log = None

-- a job that was begun and cut off made the first of these calls, and may have looked behind them
pub record HasBegun (task : PhaseTask) (old new : LinkState) : Type 0 where
  pub made : ℕ
  pub adds : AddInARow (take made (calls_of task old) ++ no_act ∷ []) old new
