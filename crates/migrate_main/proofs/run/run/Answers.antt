use Rattle.std.proofs.Common.{inl, ap}
use Rattle.migrate_server.specs.Runs.{Runs}
use Rattle.migrate_server.specs.World.{World, world_of}
use Rattle.target_volume.specs.MemVolumes.{store_state}
use Rattle.migrate_main.proofs.Began.{began}
use Rattle.migrate_main.proofs.run.run.Goals as goal

pub returns : goal.returns
returns g c =
    let outcome = c.migrate-status.result in
    let source = g.S.Source.state c.args.input.now in
    let sink = g.K.Sink.state c.args.output.now in
    let disk = g.D.Disk.state c.args.disk in
    let new = world_of (g.S.Source.state c.migrate-status.new.input)
    (g.K.Sink.state c.migrate-status.new.out) (g.D.Disk.state outcome.disk)
    (store_state outcome.volumes) outcome.fleet in
    inl (record {
      status = outcome.status;
      exits = c.code-2.ensures;
      store = store_state outcome.volumes;
      fleet = outcome.fleet;
      usage = c.migrate-status.ensures.usage;
      told = c.migrate-status.ensures.told;
      untouched = λ some. (
        ap g.S.Source.state (c.migrate-status.ensures.untouched some).0,
        ap g.D.Disk.state (c.migrate-status.ensures.untouched some).1,
      );
      runs = λ none. began (λ (old after : World). Runs old after outcome.status) source sink disk
          c.in-Ok.volumes c.empty-fleet.result new c.in-Ok.ensures c.empty-fleet.ensures
          (c.migrate-status.ensures.runs none);
    })
