-- The machine that is put back goes to the place below its number, where it is remembered.
use Rattle.std.proofs.Common.{◌≡◌, ◌+◌, ◌-◌, ◌≤◌, Some, option_copied, ap, ◌∙◌, sym, arith}
use Rattle.log_model.specs.Link.{LinkState}
use Rattle.source_vm.specs.Machine.{MachineState}
use Rattle.fleet.specs.NameMap.{value_at}
use Rattle.fleet.proofs.Replacing.{entry_at, some_number, shows_lowered, IsKept-lowered}
use Rattle.fleet.proofs.fleet.Fleet.lower.Goals as goal

pub invariant_of-self : goal.invariant_of-self
invariant_of-self c =
    let place = c.number.result - 1 in
    let at : value_at place c.self.inside.vms ≡ Some c.unwrap.result.now =
    sym c.at.ensures ∙ ap option_copied c.unwrap.ensures in
    let e = entry_at place c.self.inside.vms c.unwrap.result.now at in
    let known : c.number.result ≡ c.args.link.machine =
    c.number.ensures
    ∙ ap (λ (m : MachineState). m.number) c.into_machine-machine.ensures.machine in
    let some : 1 ≤ c.args.link.machine =
    some_number c.args.link.machine c.args.self.now _ c.requires in
    let number : c.args.link.machine ≡ place + 1 = omega (arith, known, some) in
    rw c.replace.ensures.after (IsKept-lowered
    c.self.inside.hosts c.self.inside.vms c.args.self.now c.self.view_is place e.0
    c.unwrap.result.now e.1 c.args.link number c.requires c.of-vm.result c.of-vm.ensures.host
    (c.of-vm.ensures.machine ∙ ap Some c.into_machine-machine.ensures.machine)
    c.into_machine-machine.ensures.legal c.self.invariant)

pub returns : goal.returns
returns c =
    let place = c.number.result - 1 in
    let at : value_at place c.self.inside.vms ≡ Some c.unwrap.result.now =
    sym c.at.ensures ∙ ap option_copied c.unwrap.ensures in
    let e = entry_at place c.self.inside.vms c.unwrap.result.now at in
    let known : c.number.result ≡ c.args.link.machine =
    c.number.ensures
    ∙ ap (λ (m : MachineState). m.number) c.into_machine-machine.ensures.machine in
    let some : 1 ≤ c.args.link.machine =
    some_number c.args.link.machine c.args.self.now _ c.requires in
    let number : c.args.link.machine ≡ place + 1 = omega (arith, known, some) in
    rw c.replace.ensures.after (shows_lowered
    c.self.inside.hosts c.self.inside.vms c.args.self.now c.self.view_is place e.0
    c.unwrap.result.now e.1 c.args.link number c.requires c.of-vm.result c.of-vm.ensures.host
    (c.of-vm.ensures.machine ∙ ap Some c.into_machine-machine.ensures.machine))
