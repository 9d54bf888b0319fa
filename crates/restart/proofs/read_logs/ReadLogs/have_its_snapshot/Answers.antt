use Rattle.std.proofs.Common.{ap}
use Rattle.std.specs.Option.{option_copied}
use Rattle.log_model.specs.Machine.{MachineState}
use Rattle.fleet.specs.Fleet.{machine_of}
use Rattle.ctl_state.specs.Asks.{SnapshotAsks}
use Rattle.restart.proofs.LogReading.{told_at, said_of}
use Rattle.restart.proofs.read_logs.ReadLogs.have_its_snapshot.Goals as goal

pub returns-clause-said : goal.returns-clause-said
returns-clause-said c = said_of (machine_of c.args.m.now.vm c.args.fleet.now)
    (λ (at : MachineState). SnapshotAsks c.args.m.now.number at.log c.args.m.now)
    c.unwrap.result.now c.has_its_snapshot.result
    (told_at c.args.fleet.now c.args.m.now.vm c.in-Some.machine.now c.args.self.now.facts
    c.read.new.self.facts (option_copied c.get.result) c.unwrap.result.now c.in-Some.ensures
    c.requires c.in_ok-read.ensures.gains c.get.ensures.value (ap option_copied c.unwrap.ensures))
    c.has_its_snapshot.ensures
