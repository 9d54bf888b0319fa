-- What the program begins with: what is said of any store and fleet is said of a store without a
-- volume and a fleet without a host.
use Rattle.std.proofs.Common.{◌≡◌, [], subst}
use Rattle.edge_traits.specs.Source.{SourceState}
use Rattle.edge_traits.specs.Sink.{SinkState}
use Rattle.edge_traits.specs.Disk.{DiskState}
use Rattle.fleet.specs.Fleet.{FleetState, empty_fleet}
use Rattle.target_volume.specs.MemVolumes.{MemVolumesState, store_state, new_store}
use Rattle.migrate_server.specs.World.{World, world_of}
use Rattle.migrate_main.specs.Run.{empty_store}

pub began : (R : World → World → Type 0) (source : SourceState) (sink : SinkState)
    (disk : DiskState) (volumes : MemVolumesState) (fleet : FleetState) (after : World)
    → volumes ≡ new_store 0 [] → fleet ≡ empty_fleet
    → R (world_of source sink disk (store_state volumes) fleet) after
    → R (world_of source sink disk empty_store empty_fleet) after
began R source sink disk volumes fleet after none empty h =
    let of_none : R (world_of source sink disk empty_store fleet) after =
    subst (λ (x : MemVolumesState). R (world_of source sink disk (store_state x) fleet) after)
    none h in
    subst (λ (x : FleetState). R (world_of source sink disk empty_store x) after) empty of_none
