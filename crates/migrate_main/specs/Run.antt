-- What the program makes of its words, its source, its sink and the disk of its journal, and the
-- exit status that it ends with. What else begins is fixed: a fleet without a host, and a store
-- without a volume, none of whose calls fails.
use Rattle.std.specs.Prelude.{◌≡◌, ◌⊎◌, ◌↔◌, ◌<◌, ℕ, [], true, Some}
use Rattle.edge_traits.specs.Source.{SourceState}
use Rattle.edge_traits.specs.Sink.{SinkState}
use Rattle.edge_traits.specs.Disk.{DiskState}
use Rattle.fleet.specs.Fleet.{FleetState, empty_fleet}
use Rattle.target_volume.specs.VolumeStore.{StoreState}
use Rattle.migrate_server.specs.World.{world_of}
use Rattle.migrate_server.specs.Runs.{Runs}
use Rattle.migrate_server.specs.EndsFor.{TellsUsage}
use Rattle.migrate_server.specs.Status.{status_code}
use Rattle.migrate_server.specs.declared.status.Status.{Status}
use Rattle.migrate_server.specs.declared.status.Status.TheVariants.{Usage, NoMemory}

-- the store that the program begins with: it has no volume, and no call of it fails
abbrev pub empty_store : StoreState
empty_store = record { volumes = Some []; loans = []; faults = 0; sound = true }

-- with so many words the program ended with this status
pub record Ends (words : ℕ) (source source_after : SourceState) (sink sink_after : SinkState)
    (disk disk_after : DiskState) (code : ℕ) : Type 0 where
  pub status : Status
  pub exits : code ≡ status_code status
  -- what it left of the store and of the fleet
  pub store : StoreState
  pub fleet : FleetState
  pub usage : (status ≡ Usage) ↔ (0 < words)
  pub told : 0 < words → TellsUsage sink sink_after
  pub untouched : 0 < words → (source_after ≡ source) × (disk_after ≡ disk)
  pub runs : words ≡ 0 → Runs (world_of source sink disk empty_store empty_fleet)
      (world_of source_after sink_after disk_after store fleet) status

-- there was no memory for the store
pub record NeverBegins (source source_after : SourceState) (sink sink_after : SinkState)
    (disk disk_after : DiskState) (code : ℕ) : Type 0 where
  pub exits : code ≡ status_code NoMemory
  pub unread : source_after ≡ source
  pub unwritten : sink_after ≡ sink
  pub unopened : disk_after ≡ disk

abbrev pub ExitsFor : (words : ℕ) (source source_after : SourceState) (sink sink_after : SinkState)
    (disk disk_after : DiskState) (code : ℕ) → Type 0
ExitsFor words source source_after sink sink_after disk disk_after code =
    Ends words source source_after sink sink_after disk disk_after code
    ⊎ NeverBegins source source_after sink sink_after disk disk_after code
