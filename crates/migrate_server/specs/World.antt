-- What a run of the server finds, and what it leaves: the states of all that it is given. One
-- record stands for them together, so that a contract speaks of the world before and after. A desk
-- is the same once the journal is open, as lines are served over it: it has the journal, with its
-- records, in place of the journal's disk.
use Rattle.edge_traits.specs.Source.{SourceState}
use Rattle.edge_traits.specs.Sink.{SinkState}
use Rattle.edge_traits.specs.Disk.{DiskState}
use Rattle.fleet.specs.Fleet.{FleetState}
use Rattle.journal.specs.Journal.{JournalState}
use Rattle.target_volume.specs.VolumeStore.{StoreState}

pub record World : Type 0 where
  pub source : SourceState
  pub sink : SinkState
  -- of the journal
  pub disk : DiskState
  -- of the target volumes
  pub store : StoreState
  -- the hosts and machines
  pub fleet : FleetState

abbrev pub world_of : (source : SourceState) (sink : SinkState) (disk : DiskState)
    (store : StoreState) (fleet : FleetState) → World
world_of source sink disk store fleet = record {
  source = source;
  sink = sink;
  disk = disk;
  store = store;
  fleet = fleet;
}

-- what the server has itself once the journal is open: its fleet, the journal with its records, and
-- the store of its volumes
pub record Server : Type 0 where
  pub fleet : FleetState
  pub journal : JournalState
  pub store : StoreState

abbrev pub server_of : FleetState → JournalState → StoreState → Server
server_of fleet journal store = record { fleet = fleet; journal = journal; store = store }

-- what lines are served over
pub record Desk : Type 0 where
  pub source : SourceState
  pub sink : SinkState
  pub server : Server

abbrev pub desk_of : (source : SourceState) (sink : SinkState) (server : Server) → Desk
desk_of source sink server = record { source = source; sink = sink; server = server }

-- a world whose journal is open
abbrev pub with_journal : JournalState → World → Desk
with_journal journal world =
    desk_of world.source world.sink (server_of world.fleet journal world.store)
