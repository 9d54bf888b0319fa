-- A data volume that is imported checkpoint by checkpoint, as plain data: its checkpoints in order,
-- and whether the last of them is the final one. What may be added, what finishing the last one
-- leaves, and the phase that this is. Nothing here knows of memory, so the laws of laws.rt hold of
-- every such state.
use Rattle.std.specs.Prelude.{◌≡◌, ℕ, ◌-◌, ◌<◌, ◌≤◌, ◌==◌, ◌&&◌, ◌||◌, not, nat_lt, Bool, true, false, List, [], ◌∷◌, ◌++◌, length, count_by, Option, Some, None, slice_get, if◌then◌else◌}
use Rattle.checkpoints.specs.declared.checkpoint.Checkpoint.{Checkpoint}
use Rattle.checkpoints.specs.declared.checkpoint.DvPhase.{DvPhase}
use Rattle.checkpoints.specs.declared.checkpoint.DvPhase.TheVariants.{Pending, InProgress, Paused, Succeeded}
use Rattle.checkpoints.specs.declared.checkpoint.CheckRefused.{CheckRefused}
use Rattle.checkpoints.specs.declared.checkpoint.CheckRefused.TheVariants.{Order, Final}

pub record DataVolumeState : Type 0 where
  pub checkpoints : List Checkpoint
  pub has_final : Bool

abbrev pub no_checkpoints : DataVolumeState
no_checkpoints = record { checkpoints = []; has_final = false }

abbrev pub last_checkpoint : List Checkpoint → Option Checkpoint
last_checkpoint checkpoints = slice_get checkpoints (length checkpoints - 1)

-- the snapshot that a copy behind this checkpoint goes on from; the start where there is none
abbrev pub reached_from : (start : ℕ) → Option Checkpoint → ℕ
reached_from start None = start
reached_from start (Some checkpoint) = checkpoint.current

-- there is a checkpoint, and it isn't done
abbrev pub is_unfinished : Option Checkpoint → Bool
is_unfinished None = false
is_unfinished (Some checkpoint) = not checkpoint.done

-- a checkpoint between these snapshots goes on from the last one
abbrev pub goes_on : List Checkpoint → (previous current : ℕ) → Bool
goes_on checkpoints previous current = not (is_unfinished (last_checkpoint checkpoints))
    && (previous == reached_from 0 (last_checkpoint checkpoints) && nat_lt previous current)

abbrev pub add_refusal : DataVolumeState → (previous current : ℕ) → Option CheckRefused
add_refusal state previous current = if state.has_final then Some Final
    else if goes_on state.checkpoints previous current then None else Some Order

abbrev pub checkpoint_of : (previous current : ℕ) → (done : Bool) → Checkpoint
checkpoint_of previous current done =
    record { previous = previous; current = current; done = done }

-- once the final checkpoint is there, it stays
abbrev pub after_add : DataVolumeState → (previous current : ℕ) → (last : Bool) → DataVolumeState
after_add state previous current last = record {
  checkpoints = state.checkpoints ++ checkpoint_of previous current false ∷ [];
  has_final = state.has_final || last;
}

-- there is none to finish, or it was finished before
abbrev pub done_refusal : List Checkpoint → Option CheckRefused
done_refusal checkpoints = if is_unfinished (last_checkpoint checkpoints) then None else Some Order

abbrev pub finished_checkpoint : Checkpoint → Checkpoint
finished_checkpoint checkpoint = checkpoint_of checkpoint.previous checkpoint.current true

abbrev pub with_last_done : List Checkpoint → List Checkpoint
with_last_done [] = []
with_last_done (checkpoint ∷ []) = finished_checkpoint checkpoint ∷ []
with_last_done (checkpoint ∷ later ∷ rest) = checkpoint ∷ with_last_done (later ∷ rest)

abbrev pub after_done : DataVolumeState → DataVolumeState
after_done state = record state { checkpoints = with_last_done state.checkpoints }

-- how many checkpoints are finished
abbrev pub finished_count : List Checkpoint → ℕ
finished_count checkpoints = count_by (λ checkpoint. checkpoint.done) checkpoints

abbrev pub phase_with_last : Option Checkpoint → (has_final : Bool) → DvPhase
phase_with_last None has_final = Pending
phase_with_last (Some checkpoint) has_final =
    if not checkpoint.done then InProgress else if has_final then Succeeded else Paused

abbrev pub phase_of : DataVolumeState → DvPhase
phase_of state = phase_with_last (last_checkpoint state.checkpoints) state.has_final

-- behind a snapshot, each checkpoint goes on from the one before it, and only the last may be
-- unfinished
abbrev pub IsChainFrom : (reached : ℕ) → List Checkpoint → Type 0
IsChainFrom reached [] = Unit {0}
IsChainFrom reached (checkpoint ∷ []) =
    (checkpoint.previous ≡ reached) × (reached < checkpoint.current)
IsChainFrom reached (checkpoint ∷ later ∷ rest) =
    (checkpoint.previous ≡ reached) × (reached < checkpoint.current) × (checkpoint.done ≡ true)
    × IsChainFrom checkpoint.current (later ∷ rest)

-- the checkpoints of an import from its beginning
abbrev pub IsInOrder : List Checkpoint → Type 0
IsInOrder checkpoints = IsChainFrom 0 checkpoints

-- what every data volume is: in order, and with a checkpoint where the final one was added
pub record IsSound (state : DataVolumeState) : Type 0 where
  pub in_order : IsInOrder state.checkpoints
  pub final_is_there : state.has_final ≡ true → 1 ≤ length state.checkpoints
