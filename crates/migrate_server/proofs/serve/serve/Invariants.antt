use Rattle.record_keeping.specs.Keeping.{keeping, IsReady}
use Rattle.migrate_server.specs.Reader.{budget}
use Rattle.migrate_server.specs.Serve.{AllWouldBeTaken}
use Rattle.migrate_server.specs.World.{desk_of, server_of}
use Rattle.migrate_server.proofs.Serving.{Progress}
use Rattle.migrate_server.proofs.serve.serve.Given as goal

abbrev pub invariant-loop-commands : goal.invariant-loop-commands
invariant-loop-commands g l = record {
  progress : Progress
      (desk_of (g.S.Source.state l.fn.input) (g.K.Sink.state l.fn.out)
      (server_of l.fn.fleet l.fn.controller.journal
      (g.T.VolumeStore.state l.fn.controller.store)))
      (desk_of (g.S.Source.state l.input) (g.K.Sink.state l.out)
      (server_of l.fleet l.controller.journal (g.T.VolumeStore.state l.controller.store)))
      l.reader;
  ready : IsReady (keeping l.controller.state l.controller.journal);
  taken : AllWouldBeTaken l.fleet l.controller.journal;
}

abbrev pub decreases-loop-commands : goal.decreases-loop-commands
decreases-loop-commands g l = budget l.reader
