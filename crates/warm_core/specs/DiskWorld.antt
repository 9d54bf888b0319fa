-- What a world in memory stands for. It keeps the loose sectors of its volume as runs.
use Rattle.std.specs.Prelude.{◌≡◌, ℕ, ◌≤◌, All, List, Option, Some, None, codes}
use Rattle.sector_model.specs.Run.{end_of}
use Rattle.sector_model.specs.LooseRuns.{volume_of}
use Rattle.warm_core.specs.declared.disk_world.DiskWorld.{DiskWorld}
use Rattle.warm_core.specs.declared.event.Event.{Event}
use Rattle.warm_core.specs.declared.event.CoreRefused.{CoreRefused}
use Rattle.warm_core.specs.declared.event.CoreRefused.TheVariants.{NotNow, NoMemory}
use Rattle.warm_core.specs.World.{World, IsSound}
use Rattle.warm_core.specs.Events.{MayHappen, after}

abbrev pub world_of : DiskWorld → World
world_of w = record {
  machine = w.machine;
  disk = w.disk;
  capacity = w.capacity;
  log = w.log;
  volume = volume_of w.volume w.loose;
  base = w.base;
  snap = w.snap;
  last = w.last;
  stage = w.stage;
  running = w.running;
  cancelled = w.cancelled;
  complete = w.complete;
}

-- the loose runs lie within the disk
abbrev pub LooseLiesWithin : DiskWorld → Type 0
LooseLiesWithin w = All (λ run. end_of run ≤ w.capacity) w.loose

-- a world in memory that is sound
pub record StandsSound (w : DiskWorld) : Type 0 where
  pub within : LooseLiesWithin w
  pub sound : IsSound (world_of w)

-- what an event that was carried out leaves
pub record Leaves (event : Event) (old new : DiskWorld) : Type 0 where
  pub effect : world_of new ≡ after event (world_of old)
  pub within : LooseLiesWithin new

-- why a step is refused: exactly where the event may not happen, or else for want of memory
abbrev pub IsRefusalOf : Event → World → CoreRefused → Type 0
IsRefusalOf event w NotNow = ¬ MayHappen event w
IsRefusalOf event w NoMemory = MayHappen event w

-- the number of a refusal; want of memory has none
abbrev pub refusal_number : CoreRefused → Option ℕ
refusal_number NotNow = Some 1
refusal_number NoMemory = None

-- how a refusal is told
abbrev pub refusal_text : CoreRefused → List ℕ
refusal_text NotNow = codes "not now"
refusal_text NoMemory = codes "no memory"
