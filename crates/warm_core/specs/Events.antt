-- What may happen to the world of one disk, and what it leaves. Each event has one condition and
-- one effect; where its condition doesn't hold, it isn't carried out and leaves nothing.
use Rattle.std.specs.Prelude.{◌≡◌, ℕ, ◌+◌, ◌<◌, ◌≤◌, ◌⊎◌, List, [], ◌∷◌, ◌++◌, length, take, slice_get, Bool, true, false, Option, Some, None, IsSome, IfSome, IsSomeAnd, is_none, option_map, Result, Ok, Err, IsOk, IsErr}
use Rattle.std.specs.Option.{ForSome, option_and_then}
use Rattle.sector_model.specs.Page.{page_from}
use Rattle.sector_model.specs.VolumeContents.{loose_count, volume_stopped, volume_flushed, volume_zeroed}
use Rattle.sector_model.specs.declared.run.Run.{Run}
use Rattle.change_id.specs.declared.ChangeId.{ChangeId}
use Rattle.log_model.specs.declared.entry.Entry.{Entry}
use Rattle.log_model.specs.declared.link.Snapped.{Snapped}
use Rattle.log_model.specs.Entry.{removes}
use Rattle.log_model.specs.Legal.{Legal, only}
use Rattle.log_model.specs.Marks.{mark, id_at}
use Rattle.log_model.specs.Frozen.{off_place}
use Rattle.warm_core.specs.declared.disk_world.Base.{Base}
use Rattle.warm_core.specs.declared.stage_state.StageState.{StageState}
use Rattle.warm_core.specs.declared.event.Event.{Event}
use Rattle.warm_core.specs.declared.event.Event.TheVariants.{Machine, Begin, PageAnswered, PageRefused, Copied, Zeroed, Flushed, StageDone, Stop, Restart, Cancel, Complete}
use Rattle.warm_core.specs.StageState.{begun, with_page, made_full, with_piece, at_its_end, MayAsk, MayCopy, MayZero, MayFlush}
use Rattle.warm_core.specs.Staged.{is_unfinished, IsBaseOf, blocks_asked, answer, with_copy}
use Rattle.warm_core.specs.World.{World, IsLive, MayLose}

-- ---- what each event asks of the world

-- the entry may stand in the log, and takes no snapshot away from a migration that needs it
pub record MayAdd (entry : Entry) (w : World) : Type 0 where
  pub legal : Legal (only w.disk w.capacity) (w.log ++ entry ∷ [])
  pub keeps : ForSome w.snap (λ snap. is_unfinished w.base (Some snap) ≡ true
      → removes snap.id entry.act ≡ true → MayLose w)

-- a stage on the snapshot may begin
pub record MayBegin (snapshot : ℕ) (last : Bool) (w : World) : Type 0 where
  pub running : w.running ≡ true
  pub not_cancelled : w.cancelled ≡ false
  pub incomplete : w.complete ≡ None
  pub no_stage : w.stage ≡ None
  pub live : IsLive snapshot w.log
  pub has_id : IsSome (id_at w.machine w.disk snapshot w.log)
  pub above_base : IfSome w.base (λ base. base.mark < mark snapshot w.log)
  pub from_current : IfSome w.snap (λ snap. snap.mark ≤ mark snapshot w.log)
  pub stays_last : w.last ≡ true
      → IsSomeAnd w.snap (λ snap. snap.id ≡ snapshot) × (last ≡ true)
  pub last_is_off : last ≡ true → IsSome (off_place snapshot w.log)

-- a stage runs, and the fact holds of the snapshot that it copies, the blocks that it asks for, and
-- its numbers
abbrev pub Runs : World → (List ℕ → Snapped → StageState → Type 0) → Type 0
Runs w P = IsSomeAnd w.snap (λ snap. IsSomeAnd w.stage (λ t.
    P (blocks_asked w.capacity w.disk w.log w.base snap t.full) snap t))

-- what a query answers the stage now
abbrev pub answer_now : World → Snapped → StageState → Result (List Run) (Option ChangeId)
answer_now w snap t = answer w.machine w.capacity w.disk w.log w.base snap t.full

-- the world may complete
pub record MayComplete (w : World) : Type 0 where
  pub running : w.running ≡ true
  pub not_cancelled : w.cancelled ≡ false
  pub incomplete : w.complete ≡ None
  pub last : w.last ≡ true
  pub finished : IsBaseOf w.base w.snap

abbrev pub MayHappen : Event → World → Type 0
MayHappen (Machine entry) w = MayAdd entry w
MayHappen (Begin snap last) w = MayBegin snap last w
MayHappen PageAnswered w =
    Runs w (λ blocks snap t. MayAsk blocks t × IsOk (answer_now w snap t))
MayHappen PageRefused w =
    Runs w (λ blocks snap t. MayAsk blocks t × (t.full ≡ false) × IsErr (answer_now w snap t))
MayHappen (Copied run) w = Runs w (λ blocks snap t. MayCopy blocks run t)
MayHappen (Zeroed run) w = Runs w (λ blocks snap t. MayZero blocks run t)
MayHappen Flushed w = Runs w (λ blocks snap t. MayFlush blocks t)
MayHappen StageDone w = Runs w (λ blocks snap t. t.flushed ≡ true)
MayHappen (Stop filling) w = (w.running ≡ true) × (length filling ≡ loose_count w.volume)
MayHappen Restart w = w.running ≡ false
MayHappen Cancel w = (w.running ≡ true) × (w.cancelled ≡ false) × (w.complete ≡ None)
MayHappen Complete w = MayComplete w

-- ---- what it leaves

-- a snapshot of the log
abbrev pub snapped_of : (snapshot : ℕ) → List Entry → Snapped
snapped_of snapshot log =
    record { id = snapshot; mark = mark snapshot log; off_place = off_place snapshot log }

-- behind the last sector of the page that an answer has from a sector on
abbrev pub page_end_of : (capacity start : ℕ) → Result (List Run) (Option ChangeId) → ℕ
page_end_of capacity start (Ok areas) = start + (page_from capacity areas start).length
page_end_of capacity start (Err in_force) = start

-- what the snapshot that is copied and the stage's numbers make of the world, where a stage runs
abbrev pub at_stage : (Snapped → StageState → World → World) → Option Snapped → Option StageState
    → World → World
at_stage f (Some snap) (Some t) w = f snap t w
at_stage f (Some snap) None w = w
at_stage f None stage w = w

abbrev pub by_stage : (Snapped → StageState → World → World) → World → World
by_stage f w = at_stage f w.snap w.stage w

-- the base that a finished stage leaves: its snapshot, where that has an identifier
abbrev pub base_of : (mark : ℕ) → Option ChangeId → Option Base
base_of mark id = option_map (λ id. record { mark = mark; id = id }) id

abbrev pub after_page : World → World
after_page w = by_stage (λ snap t w. record w {
  stage = Some (with_page (page_end_of w.capacity t.covered (answer_now w snap t)) t);
}) w

abbrev pub after_copy : Run → World → World
after_copy run w = by_stage (λ snap t w. record w {
  volume = with_copy w.capacity w.disk snap.mark w.log run w.volume;
  stage = Some (with_piece run t);
}) w

abbrev pub after_done : World → World
after_done w = by_stage (λ snap t w. record w {
  base = base_of snap.mark (id_at w.machine w.disk snap.id w.log);
  stage = None;
}) w

abbrev pub after : Event → World → World
after (Machine entry) w = record w { log = w.log ++ entry ∷ [] }
after (Begin snap last) w = record w {
  snap = Some (snapped_of snap w.log);
  last = last;
  stage = Some (begun w.capacity (is_none w.base));
}
after PageAnswered w = after_page w
after PageRefused w = record w { stage = option_map made_full w.stage }
after (Copied run) w = after_copy run w
after (Zeroed run) w = record w {
  volume = volume_zeroed run.first run.count w.volume;
  stage = option_map (with_piece run) w.stage;
}
after Flushed w = record w {
  volume = volume_flushed w.volume;
  stage = option_map at_its_end w.stage;
}
after StageDone w = after_done w
after (Stop filling) w = record w {
  volume = volume_stopped filling w.volume;
  stage = None;
  running = false;
}
after Restart w = record w { running = true }
after Cancel w = record w { cancelled = true }
after Complete w = record w { complete = option_and_then (λ snap. snap.off_place) w.snap }

-- ---- events in a row

-- an event is carried out where it may happen, and else leaves the world
abbrev pub Steps : Event → (old new : World) → Type 0
Steps event old new =
    (MayHappen event old × (new ≡ after event old)) ⊎ ((¬ MayHappen event old) × (new ≡ old))

abbrev pub Follows : List Event → (old new : World) → Type 0
Follows [] old new = new ≡ old
Follows (event ∷ events) old new =
    (next : World) × Steps event old next × Follows events next new

-- the events before one of them were followed, and that one might happen then
abbrev pub IsCutShort : List Event → (old new : World) → Type 0
IsCutShort events old new = (n : ℕ) × Follows (take n events) old new
    × IsSomeAnd (slice_get events n) (λ event. MayHappen event new)
