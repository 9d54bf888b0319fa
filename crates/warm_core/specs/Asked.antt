-- Words of the functions that decide whether an event may happen: no promise of the crate.
use Rattle.std.specs.Prelude.{◌≡◌, ℕ, ◌<◌, ◌≤◌, ◌&&◌, List, Bool, true, false, Option, Some, None, IfSome, IsSome, IsSomeAnd, IsOk, IsErr}
use Rattle.std.specs.Option.{ForSome}
use Rattle.sector_model.specs.Run.{end_of, in_blocks}
use Rattle.sector_model.specs.declared.run.Run.{Run}
use Rattle.log_model.specs.declared.entry.Entry.{Entry}
use Rattle.log_model.specs.declared.link.Snapped.{Snapped}
use Rattle.log_model.specs.Entry.{removes}
use Rattle.log_model.specs.Marks.{mark, id_at}
use Rattle.log_model.specs.Frozen.{off_place}
use Rattle.log_model.specs.Touched.{entry_touches, is_touched}
use Rattle.warm_core.specs.declared.disk_world.Base.{Base}
use Rattle.warm_core.specs.declared.event.Event.{Event}
use Rattle.warm_core.specs.declared.event.Event.TheVariants.{Machine, Begin, PageAnswered, PageRefused, Copied, Zeroed, Flushed, StageDone, Stop, Restart, Cancel, Complete}
use Rattle.warm_core.specs.declared.stage_state.StageState.{StageState}
use Rattle.warm_core.specs.StageState.{has_to_write, MayAsk, MayCopy, MayZero, MayFlush}
use Rattle.warm_core.specs.Staged.{is_unfinished, blocks_asked}
use Rattle.warm_core.specs.World.{World, IsLive, MayLose}
use Rattle.warm_core.specs.Events.{answer_now}

-- a sector of the range is touched by an entry, or none is
abbrev pub Meets : (disk from end : ℕ) → Entry → Type 0
Meets disk from end entry = (sector : ℕ) × (from ≤ sector) × (sector < end)
    × (entry_touches disk sector entry ≡ true)

abbrev pub Misses : (disk from end : ℕ) → Entry → Type 0
Misses disk from end entry = (sector : ℕ) → from ≤ sector → sector < end
    → entry_touches disk sector entry ≡ false

abbrev pub AreMet : (disk from end : ℕ) → List Entry → Type 0
AreMet disk from end entries = (sector : ℕ) × (from ≤ sector) × (sector < end)
    × (is_touched disk sector entries ≡ true)

abbrev pub AreMissed : (disk from end : ℕ) → List Entry → Type 0
AreMissed disk from end entries = (sector : ℕ) → from ≤ sector → sector < end
    → is_touched disk sector entries ≡ false

-- all sectors of the run are of the blocks, or none is
abbrev pub AllAsked : (blocks : List ℕ) → Run → Type 0
AllAsked blocks run = (sector : ℕ) → run.first ≤ sector → sector < end_of run
    → in_blocks blocks sector ≡ true

abbrev pub NoneAsked : (blocks : List ℕ) → Run → Type 0
NoneAsked blocks run = (sector : ℕ) → run.first ≤ sector → sector < end_of run
    → in_blocks blocks sector ≡ false

-- nothing is left to write from a sector on, before another
abbrev pub NothingLeft : (blocks : List ℕ) → StageState → (from end : ℕ) → Type 0
NothingLeft blocks t from end = (sector : ℕ) → from ≤ sector → sector < end
    → has_to_write blocks t sector ≡ false

-- the entry removes the current snapshot while it is unfinished
abbrev pub removes_needed : Option Base → Option Snapped → Entry → Bool
removes_needed base None entry = false
removes_needed base (Some snap) entry =
    removes snap.id entry.act && is_unfinished base (Some snap)

-- the entry leaves the current snapshot, or that isn't needed any more
abbrev pub IsSpared : Entry → World → Type 0
IsSpared entry w = ForSome w.snap (λ snap. is_unfinished w.base (Some snap) ≡ true
    → removes snap.id entry.act ≡ true → MayLose w)

-- the parts of what a stage that begins asks
pub record IsOpen (w : World) : Type 0 where
  pub running : w.running ≡ true
  pub not_cancelled : w.cancelled ≡ false
  pub incomplete : w.complete ≡ None
  pub no_stage : w.stage ≡ None

pub record IsLater (base : Option Base) (snap : Option Snapped) (mark : ℕ) : Type 0 where
  pub above_base : IfSome base (λ base. base.mark < mark)
  pub from_current : IfSome snap (λ snap. snap.mark ≤ mark)

pub record IsDue (snapshot : ℕ) (w : World) : Type 0 where
  pub live : IsLive snapshot w.log
  pub has_id : IsSome (id_at w.machine w.disk snapshot w.log)
  pub later : IsLater w.base w.snap (mark snapshot w.log)

pub record MayBeLast (snapshot : ℕ) (last : Bool) (w : World) : Type 0 where
  pub stays_last : w.last ≡ true
      → IsSomeAnd w.snap (λ snap. snap.id ≡ snapshot) × (last ≡ true)
  pub last_is_off : last ≡ true → IsSome (off_place snapshot w.log)

-- what a stage's event asks, where the stage is at hand
abbrev pub StageMay : Event → World → Snapped → StageState → Type 0
StageMay (Machine entry) w snap t = ⊥
StageMay (Begin snapshot last) w snap t = ⊥
StageMay PageAnswered w snap t =
    MayAsk (blocks_asked w.capacity w.disk w.log w.base snap t.full) t
    × IsOk (answer_now w snap t)
StageMay PageRefused w snap t =
    MayAsk (blocks_asked w.capacity w.disk w.log w.base snap t.full) t × (t.full ≡ false)
    × IsErr (answer_now w snap t)
StageMay (Copied run) w snap t =
    MayCopy (blocks_asked w.capacity w.disk w.log w.base snap t.full) run t
StageMay (Zeroed run) w snap t =
    MayZero (blocks_asked w.capacity w.disk w.log w.base snap t.full) run t
StageMay Flushed w snap t = MayFlush (blocks_asked w.capacity w.disk w.log w.base snap t.full) t
StageMay StageDone w snap t = t.flushed ≡ true
StageMay (Stop filling) w snap t = ⊥
StageMay Restart w snap t = ⊥
StageMay Cancel w snap t = ⊥
StageMay Complete w snap t = ⊥
