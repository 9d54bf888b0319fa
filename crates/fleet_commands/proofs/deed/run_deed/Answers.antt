-- What the link saw is what the fleet is left with, and what it told is what is answered.
use Rattle.std.proofs.Common.{◌≡◌, Some, refl, ◌∙◌, sym}
use Rattle.basics.proofs.Results.{on_err}
use Rattle.log_model.specs.declared.refusals.LinkRefused.TheVariants.{NoMemory}
use Rattle.source_vm.specs.Machine.{MachineState}
use Rattle.fleet_commands.specs.Refusals.{link_told}
use Rattle.fleet_commands.specs.Machines.{machine_named}
use Rattle.fleet_commands.specs.commands.Deed.{act_of, refusal_by}
use Rattle.fleet_commands.proofs.Telling.{told_none, told_some}
use Rattle.fleet_commands.proofs.Lifting.{refused_as}
use Rattle.fleet_commands.proofs.Acting.{acted_may_go_back, met_log, accepted_act, refused_act}
use Rattle.fleet_commands.proofs.deed.run_deed.Goals as goal

pub lower-requires : goal.lower-requires
lower-requires c =
    let m : MachineState = c.in-Some.machine in
    let named : machine_named c.args.vm.now c.args.fleet.now ≡ Some m =
    sym c.take_out.ensures.machine ∙ c.in-Some.is in
    let lent = rw c.in-Some.is at c.take_out.ensures.after in
    let adds = rw c.of-link.ensures at c.to-done.ensures.adds in
    rw lent (acted_may_go_back c.args.vm.now m c.args.fleet.now named c.to-done.new.link
    (act_of c.args.deed) c.to-done.result adds)

pub returns-in-Ok-clause-answer : goal.returns-in-Ok-clause-answer
returns-in-Ok-clause-answer c =
    let m : MachineState = c.in-Some.machine in
    let named : machine_named c.args.vm.now c.args.fleet.now ≡ Some m =
    sym c.take_out.ensures.machine ∙ c.in-Some.is in
    let lent = rw c.in-Some.is at c.take_out.ensures.after in
    let adds = rw c.of-link.ensures at c.to-done.ensures.adds in
    let met = met_log c.args.vm.now m c.args.fleet.now named c.to-done.new.link
    (act_of c.args.deed) c.to-done.result adds in
    let refused = rw (c.of-link.ensures, met) at c.to-done.ensures.refused in (
      refused_as c.args.vm.now m c.args.fleet.now named _
          ∙ told_none link_told (refusal_by c.args.deed m.capacities m.log) NoMemory
          c.to-done.result tt refused c.in-Ok.is,
      refl,
      rw (c.lower.ensures, lent) (accepted_act c.args.vm.now m c.args.fleet.now named
          c.to-done.new.link (act_of c.args.deed) c.to-done.result adds tt c.in-Ok.is),
    )

pub returns-in_ok-ok_or-in-Err-clause-answer : goal.returns-in_ok-ok_or-in-Err-clause-answer
returns-in_ok-ok_or-in-Err-clause-answer c =
    let m : MachineState = c.in-Some.machine in
    let named : machine_named c.args.vm.now c.args.fleet.now ≡ Some m =
    sym c.take_out.ensures.machine ∙ c.in-Some.is in
    let lent = rw c.in-Some.is at c.take_out.ensures.after in
    let adds = rw c.of-link.ensures at c.to-done.ensures.adds in
    let met = met_log c.args.vm.now m c.args.fleet.now named c.to-done.new.link
    (act_of c.args.deed) c.to-done.result adds in
    let refused = rw (c.of-link.ensures, met) at c.to-done.ensures.refused in
    let told = sym c.link_told.ensures ∙ c.in_ok-ok_or-in-Err.ensures.ok_part in (
      refused_as c.args.vm.now m c.args.fleet.now named _
          ∙ told_some link_told (refusal_by c.args.deed m.capacities m.log) NoMemory
          c.to-done.result c.in-Err.why _ refused c.in-Err.is refl told,
      rw (c.lower.ensures, lent) (refused_act c.args.vm.now m c.args.fleet.now named
          c.to-done.new.link (act_of c.args.deed) c.to-done.result adds c.in-Err.why c.in-Err.is),
    )

pub returns-in_err-ok_or-in-Err-clause-err : goal.returns-in_err-ok_or-in-Err-clause-err
returns-in_err-ok_or-in-Err-clause-err c =
    let m : MachineState = c.in-Some.machine in
    let named : machine_named c.args.vm.now c.args.fleet.now ≡ Some m =
    sym c.take_out.ensures.machine ∙ c.in-Some.is in
    let lent = rw c.in-Some.is at c.take_out.ensures.after in
    let adds = rw c.of-link.ensures at c.to-done.ensures.adds in
    let kept : c.lower.new.self ≡ c.args.fleet.now =
    rw (c.lower.ensures, lent) (refused_act c.args.vm.now m c.args.fleet.now named
    c.to-done.new.link (act_of c.args.deed) c.to-done.result adds c.in-Err.why c.in-Err.is) in
    on_err c.from_residual.result kept
