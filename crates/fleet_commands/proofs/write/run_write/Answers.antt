-- What the machine added is what the fleet is left with, and what it told is what is answered.
use Rattle.std.proofs.Common.{◌≡◌, replicate, Some, refl, ◌∙◌, sym}
use Rattle.std.proofs.lemmas.List.{length-replicate}
use Rattle.basics.proofs.Results.{on_err}
use Rattle.sector_model.specs.Sector.{filled}
use Rattle.log_model.specs.declared.refusals.WriteRefused.TheVariants.{NoMemory}
use Rattle.log_model.specs.Refusals.{write_refusal}
use Rattle.source_vm.specs.Machine.{MachineState}
use Rattle.fleet_commands.specs.Refusals.{write_told}
use Rattle.fleet_commands.specs.Machines.{machine_named}
use Rattle.fleet_commands.specs.commands.Write.{fill_act}
use Rattle.fleet_commands.proofs.Telling.{told_none, told_some}
use Rattle.fleet_commands.proofs.Lifting.{refused_as}
use Rattle.fleet_commands.proofs.Acting.{added_may_go_back, accepted_addition, refused_addition}
use Rattle.fleet_commands.proofs.write.run_write.Goals as goal

pub lower-requires : goal.lower-requires
lower-requires c =
    let m : MachineState = c.in-Some.machine in
    let named : machine_named c.args.vm.now c.args.fleet.now ≡ Some m =
    sym c.take_out.ensures.machine ∙ c.in-Some.is in
    let lent = rw c.in-Some.is at c.take_out.ensures.after in
    rw (lent, c.of.ensures) (added_may_go_back c.args.vm.now m c.args.fleet.now named
    c.guest_write-written.new.self _ c.guest_write-written.result
    c.guest_write-written.ensures.adds c.guest_write-written.ensures.legal)

pub returns-in-Ok-clause-answer : goal.returns-in-Ok-clause-answer
returns-in-Ok-clause-answer c =
    let m : MachineState = c.in-Some.machine in
    let named : machine_named c.args.vm.now c.args.fleet.now ≡ Some m =
    sym c.take_out.ensures.machine ∙ c.in-Some.is in
    let lent = rw c.in-Some.is at c.take_out.ensures.after in
    let sectors : c.deref.result.now ≡ replicate c.args.line.count (filled c.args.line.fill) =
    c.deref.ensures.value ∙ c.in_ok-sectors.ensures in
    let adds = rw sectors at c.guest_write-written.ensures.adds in
    let refused = rw (sectors, length-replicate) at c.guest_write-written.ensures.refused in (
      refused_as c.args.vm.now m c.args.fleet.now named _
          ∙ told_none write_told (write_refusal m.capacities c.args.line.disk c.args.line.first
          c.args.line.count m.log) NoMemory c.guest_write-written.result tt refused c.in-Ok.is,
      refl,
      rw (c.lower.ensures, c.of.ensures, lent) (accepted_addition c.args.vm.now m
          c.args.fleet.now named c.guest_write-written.new.self
          (fill_act c.args.line.disk c.args.line.first c.args.line.count c.args.line.fill)
          c.guest_write-written.result adds tt c.in-Ok.is),
    )

pub returns-clause-answer : goal.returns-clause-answer
returns-clause-answer c =
    let m : MachineState = c.in-Some.machine in
    let named : machine_named c.args.vm.now c.args.fleet.now ≡ Some m =
    sym c.take_out.ensures.machine ∙ c.in-Some.is in
    let lent = rw c.in-Some.is at c.take_out.ensures.after in
    let sectors : c.deref.result.now ≡ replicate c.args.line.count (filled c.args.line.fill) =
    c.deref.ensures.value ∙ c.in_ok-sectors.ensures in
    let refused = rw (sectors, length-replicate) at c.guest_write-written.ensures.refused in
    let told = sym c.write_told.ensures ∙ c.in_ok-ok_or-in-Err.ensures.ok_part in (
      refused_as c.args.vm.now m c.args.fleet.now named _
          ∙ told_some write_told (write_refusal m.capacities c.args.line.disk c.args.line.first
          c.args.line.count m.log) NoMemory c.guest_write-written.result c.in-Err.why _ refused
          c.in-Err.is refl told,
      rw (c.lower.ensures, c.of.ensures, lent) (refused_addition c.args.vm.now m
          c.args.fleet.now named c.guest_write-written.new.self _ c.guest_write-written.result
          c.guest_write-written.ensures.adds c.in-Err.why c.in-Err.is),
    )

pub returns-in_err-ok_or-in-Err-clause-err : goal.returns-in_err-ok_or-in-Err-clause-err
returns-in_err-ok_or-in-Err-clause-err c =
    let m : MachineState = c.in-Some.machine in
    let named : machine_named c.args.vm.now c.args.fleet.now ≡ Some m =
    sym c.take_out.ensures.machine ∙ c.in-Some.is in
    let lent = rw c.in-Some.is at c.take_out.ensures.after in
    let kept : c.lower.new.self ≡ c.args.fleet.now =
    rw (c.lower.ensures, c.of.ensures, lent) (refused_addition c.args.vm.now m c.args.fleet.now
    named c.guest_write-written.new.self _ c.guest_write-written.result
    c.guest_write-written.ensures.adds c.in-Err.why c.in-Err.is) in
    on_err c.from_residual-in_err-ok_or-in-Err.result kept
