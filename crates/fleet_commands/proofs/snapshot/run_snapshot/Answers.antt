-- The machine goes back with the snapshot that it took, or as it was.
use Rattle.std.proofs.Common.{◌≡◌, Some, ◌∙◌, sym}
use Rattle.basics.proofs.Results.{on_err}
use Rattle.source_vm.specs.Machine.{MachineState}
use Rattle.fleet_commands.specs.Machines.{machine_named}
use Rattle.fleet_commands.proofs.Snapping.{snapshot_answers, taken_may_go_back, nothing_taken, snapshot_refuses}
use Rattle.fleet_commands.proofs.snapshot.run_snapshot.Goals as goal

pub lower-requires : goal.lower-requires
lower-requires c =
    let m : MachineState = c.in-Some.machine in
    let named : machine_named c.args.vm.now c.args.fleet.now ≡ Some m =
    sym c.take_out.ensures.machine ∙ c.in-Some.is in
    let lent = rw c.in-Some.is at c.take_out.ensures.after in
    let adds = rw c.of-link.ensures at c.snap-taken.ensures.adds in
    rw lent (taken_may_go_back c.args.vm.now m c.args.fleet.now named c.snap-taken.new.link
    c.snap-taken.result adds (rw c.of-link.ensures at c.snap-taken.ensures.refused))

pub returns-in_err-ok_or-in-Err-clause-err : goal.returns-in_err-ok_or-in-Err-clause-err
returns-in_err-ok_or-in-Err-clause-err c =
    let m : MachineState = c.in-Some.machine in
    let named : machine_named c.args.vm.now c.args.fleet.now ≡ Some m =
    sym c.take_out.ensures.machine ∙ c.in-Some.is in
    let lent = rw c.in-Some.is at c.take_out.ensures.after in
    let adds = rw c.of-link.ensures at c.snap-taken.ensures.adds in
    let refused = rw c.of-link.ensures at c.snap-taken.ensures.refused in
    let back : c.lower.new.self ≡ c.args.fleet.now =
    rw (c.lower.ensures, lent) (nothing_taken c.args.vm.now m c.args.fleet.now named
    c.snap-taken.new.link c.snap-taken.result adds refused c.in-Err.why c.in-Err.is) in
    on_err c.from_residual-in_err-ok_or-in-Err.result back

pub returns-in-Ok-clause-answer : goal.returns-in-Ok-clause-answer
returns-in-Ok-clause-answer c =
    let m : MachineState = c.in-Some.machine in
    let named : machine_named c.args.vm.now c.args.fleet.now ≡ Some m =
    sym c.take_out.ensures.machine ∙ c.in-Some.is in
    let lent = rw c.in-Some.is at c.take_out.ensures.after in
    let adds = rw c.of-link.ensures at c.snap-taken.ensures.adds in
    let refused = rw c.of-link.ensures at c.snap-taken.ensures.refused in
    let number = rw (c.in-Ok.is, c.of-link.ensures) at c.snap-taken.ensures.number in
    let ids = rw (c.in-Ok.is, c.of-link.ensures) at c.snap-taken.ensures.ids in
    rw (c.lower.ensures, lent) (snapshot_answers c.args.vm.now m c.args.fleet.now named
    c.snap-taken.new.link c.snap-taken.result adds refused c.in-Ok.snapshot c.in-Ok.is number
    c.from_vec.result (c.from_vec.ensures ∙ ids))

pub returns-in_ok-ok_or-in-Err-clause-answer : goal.returns-in_ok-ok_or-in-Err-clause-answer
returns-in_ok-ok_or-in-Err-clause-answer c =
    let m : MachineState = c.in-Some.machine in
    let named : machine_named c.args.vm.now c.args.fleet.now ≡ Some m =
    sym c.take_out.ensures.machine ∙ c.in-Some.is in
    let lent = rw c.in-Some.is at c.take_out.ensures.after in
    let adds = rw c.of-link.ensures at c.snap-taken.ensures.adds in
    let refused = rw c.of-link.ensures at c.snap-taken.ensures.refused in
    let told = sym c.link_told.ensures ∙ c.in_ok-ok_or-in-Err.ensures.ok_part in
    rw (c.lower.ensures, lent) (snapshot_refuses c.args.vm.now m c.args.fleet.now named
    c.snap-taken.new.link c.snap-taken.result adds refused c.in-Err.why c.in-Err.is _ told)
