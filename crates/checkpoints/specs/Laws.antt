-- What holds of every state of a data volume: what adding a checkpoint and finishing it do to the
-- order of checkpoints, to the last of them, to their count and to the phase. The layer above takes
-- its order from here.
use Rattle.std.specs.Prelude.{◌≡◌, ℕ, ◌+◌, ◌<◌, Bool, true, List, [], ◌∷◌, ◌++◌, map, Some, None, option_map, if◌then◌else◌}
use Rattle.std.specs.List.Sorted.{IsStrictlyIncreasing}
use Rattle.checkpoints.specs.declared.checkpoint.Checkpoint.{Checkpoint}
use Rattle.checkpoints.specs.declared.checkpoint.DvPhase.TheVariants.{InProgress, Paused, Succeeded}
use Rattle.checkpoints.specs.declared.checkpoint.CheckRefused.TheVariants.{Order, Final}
use Rattle.checkpoints.specs.DataVolume.{DataVolumeState, no_checkpoints, last_checkpoint, finished_checkpoint, finished_count, add_refusal, after_add, done_refusal, with_last_done, after_done, phase_of, IsInOrder, IsSound}

-- a data volume is sound from the beginning, and stays so under what `add` accepts and under
-- finishing the last
abbrev pub NewIsSound : Type 0
NewIsSound = IsSound no_checkpoints

abbrev pub AddKeepsSound : Type 0
AddKeepsSound = (state : DataVolumeState) (previous current : ℕ) (last : Bool)
    → IsSound state → add_refusal state previous current ≡ None
    → IsSound (after_add state previous current last)

abbrev pub DoneKeepsSound : Type 0
DoneKeepsSound = (state : DataVolumeState) → IsSound state → IsSound (after_done state)

-- what was added stands last
abbrev pub LastIsAdded : Type 0
LastIsAdded = (checkpoints : List Checkpoint) (added : Checkpoint)
    → last_checkpoint (checkpoints ++ added ∷ []) ≡ Some added

-- the last one is finished, and no other is touched
abbrev pub LastIsFinished : Type 0
LastIsFinished = (checkpoints : List Checkpoint)
    → last_checkpoint (with_last_done checkpoints)
    ≡ option_map finished_checkpoint (last_checkpoint checkpoints)

abbrev pub OnlyTheLastIsFinished : Type 0
OnlyTheLastIsFinished = (front : List Checkpoint) (last : Checkpoint)
    → with_last_done (front ++ last ∷ []) ≡ front ++ finished_checkpoint last ∷ []

-- an unfinished checkpoint doesn't count, and finishing it adds one
abbrev pub AddLeavesTheCount : Type 0
AddLeavesTheCount = (state : DataVolumeState) (previous current : ℕ) (last : Bool)
    → finished_count (after_add state previous current last).checkpoints
    ≡ finished_count state.checkpoints

abbrev pub DoneAddsOne : Type 0
DoneAddsOne = (checkpoints : List Checkpoint) → done_refusal checkpoints ≡ None
    → finished_count (with_last_done checkpoints) ≡ finished_count checkpoints + 1

-- of two checkpoints in a row, wherever they stand, the first is finished and the second goes on
-- from its snapshot to a later one
pub record Joined (earlier later : Checkpoint) : Type 0 where
  pub same_snapshot : later.previous ≡ earlier.current
  pub rising : earlier.current < later.current
  pub finished : earlier.done ≡ true

abbrev pub NeighboursJoin : Type 0
NeighboursJoin = (front rest : List Checkpoint) (earlier later : Checkpoint)
    → IsInOrder (front ++ earlier ∷ later ∷ rest) → Joined earlier later

-- so no two checkpoints are of one snapshot
abbrev pub SnapshotsRise : Type 0
SnapshotsRise = (checkpoints : List Checkpoint) → IsInOrder checkpoints
    → IsStrictlyIncreasing (map (λ checkpoint. checkpoint.current) checkpoints)

-- the phase after each call
abbrev pub AddedIsInProgress : Type 0
AddedIsInProgress = (state : DataVolumeState) (previous current : ℕ) (last : Bool)
    → phase_of (after_add state previous current last) ≡ InProgress

abbrev pub FinishedIsPausedOrSucceeded : Type 0
FinishedIsPausedOrSucceeded = (state : DataVolumeState) → done_refusal state.checkpoints ≡ None
    → phase_of (after_done state) ≡ (if state.has_final then Succeeded else Paused)

-- an import that has succeeded takes nothing more
abbrev pub SucceededStays : Type 0
SucceededStays = (state : DataVolumeState) (previous current : ℕ) → phase_of state ≡ Succeeded
    → (add_refusal state previous current ≡ Some Final)
    × (done_refusal state.checkpoints ≡ Some Order)
