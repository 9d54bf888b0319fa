-- The world of one disk that is migrated: the log of its machine, what its volume holds, and how
-- far its stages have come. It is plain data, so that a history can carry it. Most facts about it
-- are about its parts, so that whoever has only some of them can use the same words; those of a
-- snapshot that may go, of a complete world and of a stage that runs are about the whole.
use Rattle.std.specs.Prelude.{◌≡◌, ℕ, ◌<◌, ◌≤◌, ◌⊎◌, List, length, Bool, true, false, Option, Some, None, IsSome, IsSomeAnd}
use Rattle.std.specs.Option.{ForSome}
use Rattle.sector_model.specs.VolumeContents.{VolumeContents, IsSized, IsFlushed}
use Rattle.log_model.specs.declared.entry.Entry.{Entry}
use Rattle.log_model.specs.declared.link.Snapped.{Snapped}
use Rattle.log_model.specs.Legal.{Legal, only, owner_of}
use Rattle.log_model.specs.Marks.{mark, id_at, HasId}
use Rattle.log_model.specs.Frozen.{off_place}
use Rattle.warm_core.specs.declared.disk_world.Base.{Base}
use Rattle.warm_core.specs.declared.stage_state.StageState.{StageState}
use Rattle.warm_core.specs.Staged.{is_unfinished, IsBaseOf, IsFullCopy, Staged, StageFits, StageHolds}

pub record World : Type 0 where
  -- the disk, its machine, and how many sectors it has
  pub machine : ℕ
  pub disk : ℕ
  pub capacity : ℕ
  -- what happened to the machine
  pub log : List Entry
  -- what the volume holds that the disk is copied to
  pub volume : VolumeContents
  -- the last stage that was finished, and the snapshot that is copied or was copied last
  pub base : Option Base
  pub snap : Option Snapped
  -- the current snapshot is the last one
  pub last : Bool
  -- the stage that runs
  pub stage : Option StageState
  -- the process that copies runs, and wasn't stopped
  pub running : Bool
  pub cancelled : Bool
  -- up to which place of the log the volume is complete
  pub complete : Option ℕ

-- the snapshot is one of the log's, with its mark and its power-off place
pub record IsSnapOf (log : List Entry) (snap : Snapped) : Type 0 where
  pub within : snap.mark < length log
  pub mark_is : mark snap.id log ≡ snap.mark
  pub off_place_is : off_place snap.id log ≡ snap.off_place

-- the snapshot is live
abbrev pub IsLive : (snapshot : ℕ) → List Entry → Type 0
IsLive snapshot log = IsSome (owner_of snapshot log)

-- a world in which nothing was done yet
pub record IsStart (w : World) : Type 0 where
  pub legal : Legal (only w.disk w.capacity) w.log
  pub sized : IsSized w.capacity w.volume
  pub no_base : w.base ≡ None
  pub no_snap : w.snap ≡ None
  pub no_stage : w.stage ≡ None
  pub not_last : w.last ≡ false
  pub running : w.running ≡ true
  pub not_cancelled : w.cancelled ≡ false
  pub incomplete : w.complete ≡ None

-- the snapshot may be removed although it is unfinished: the migration was cancelled, and no stage
-- reads it
pub record MayLose (w : World) : Type 0 where
  pub cancelled : w.cancelled ≡ true
  pub no_stage : w.stage ≡ None

-- the base is of the current snapshot, and the volume is just what the log up to the place leaves
pub record IsCompleteAt (w : World) (place : ℕ) : Type 0 where
  pub last : w.last ≡ true
  pub no_stage : w.stage ≡ None
  pub finished : IsBaseOf w.base w.snap
  pub off_place : IsSomeAnd w.snap (λ snap. snap.off_place ≡ Some place)
  pub tight : IsFlushed w.volume
  pub same : IsFullCopy w.capacity w.disk place w.log w.volume

-- a stage runs in a running world, on a snapshot that has an identifier
pub record StageIsSound (w : World) (snap : Snapped) (t : StageState) : Type 0 where
  pub running : w.running ≡ true
  pub has_id : IsSome (id_at w.machine w.disk snap.id w.log)
  pub fits : StageFits w.capacity w.disk w.log w.base snap t
  pub holds : StageHolds w.capacity w.disk w.log w.base snap t w.volume

-- what is kept of a world by all that may happen to it
pub record IsSound (w : World) : Type 0 where
  pub legal : Legal (only w.disk w.capacity) w.log
  pub sized : IsSized w.capacity w.volume
  -- a base is a snapshot of the log, by its mark and its identifier
  pub base_is : ForSome w.base (λ base. HasId w.machine w.disk base.id w.log base.mark)
  pub base_has_snap : IsSome w.base → IsSome w.snap
  -- the current snapshot is one of the log, not before the base, and live while it is unfinished
  pub snap_is : ForSome w.snap (IsSnapOf w.log)
  pub snap_from_base : ForSome w.snap (λ snap. ForSome w.base (λ base. base.mark ≤ snap.mark))
  pub snap_lives : ForSome w.snap (λ snap. is_unfinished w.base (Some snap) ≡ true
      → IsLive snap.id w.log ⊎ MayLose w)
  pub last_is_off : w.last ≡ true → IsSomeAnd w.snap (λ snap. IsSome snap.off_place)
  pub stage_has_snap : IsSome w.stage → IsSome w.snap
  pub stage_is : ForSome w.snap (λ snap. ForSome w.stage (StageIsSound w snap))
  pub complete_is : ForSome w.complete (IsCompleteAt w)
  pub staged : Staged w.capacity w.disk w.log w.base w.snap w.volume
