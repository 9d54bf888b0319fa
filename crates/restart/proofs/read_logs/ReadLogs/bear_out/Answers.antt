use Rattle.std.proofs.Common.{ap}
use Rattle.std.specs.Option.{option_copied}
use Rattle.log_model.specs.Machine.{MachineState}
use Rattle.fleet.specs.Fleet.{machine_of}
use Rattle.ctl_state.specs.Asks.{RecordAsks}
use Rattle.restart.proofs.LogReading.{told_at, told_is, answer_of}
use Rattle.restart.proofs.read_logs.ReadLogs.bear_out.Goals as goal

pub bears_out-requires : goal.bears_out-requires
bears_out-requires c = told_is c.args.fleet.now c.args.m.now.vm c.in-Some.machine.now
    c.unwrap.result.now c.in-Some.ensures
    (told_at c.args.fleet.now c.args.m.now.vm c.in-Some.machine.now c.args.self.now.facts
    c.read.new.self.facts (option_copied c.get.result) c.unwrap.result.now c.in-Some.ensures
    c.requires c.in_ok-read.ensures.gains c.get.ensures.value (ap option_copied c.unwrap.ensures))

pub returns-clause-said : goal.returns-clause-said
returns-clause-said c = answer_of (machine_of c.args.m.now.vm c.args.fleet.now)
    (λ (at : MachineState). RecordAsks at c.args.m.now c.args.r.now) c.unwrap.result.now
    c.bears_out.result
    (told_at c.args.fleet.now c.args.m.now.vm c.in-Some.machine.now c.args.self.now.facts
    c.read.new.self.facts (option_copied c.get.result) c.unwrap.result.now c.in-Some.ensures
    c.requires c.in_ok-read.ensures.gains c.get.ensures.value (ap option_copied c.unwrap.ensures))
    c.bears_out.ensures
