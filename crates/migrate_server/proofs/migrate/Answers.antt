use Rattle.migrate_server.specs.World.{world_of}
use Rattle.migrate_server.proofs.Chains.{runs_sound}
use Rattle.migrate_server.proofs.migrate.Goals as goal

pub returns-clause-sound : goal.returns-clause-sound
returns-clause-sound g c =
    let old = world_of (g.S.Source.state c.args.input.now) (g.K.Sink.state c.args.out.now)
    (g.D.Disk.state c.args.devices.disk) (g.T.VolumeStore.state c.args.devices.volumes)
    c.args.fleet in
    let new = world_of (g.S.Source.state c.run.new.input) (g.K.Sink.state c.run.new.out)
    (g.D.Disk.state c.run.result.disk) (g.T.VolumeStore.state c.run.result.volumes)
    c.run.result.fleet in
    runs_sound old new c.run.result.status c.run.ensures.runs
