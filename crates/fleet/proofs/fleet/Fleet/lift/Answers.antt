-- The machine that is taken out is the one at the place below its number, and is remembered there.
use Rattle.std.proofs.Common.{◌≡◌, ◌+◌, Option, Some, None, IsSomeAnd, slice_get, option_copied, ap, ◌∙◌, sym, arith}
use Rattle.std.proofs.lemmas.Option.{same_Some}
use Rattle.log_model.specs.declared.entry.TheConstants.{MIGRATION_CALLER}
use Rattle.source_vm.specs.Machine.{link_of}
use Rattle.fleet.specs.NameMap.{value_at, with_value_at}
use Rattle.fleet.specs.declared.vm.Vm.{Vm}
use Rattle.fleet.specs.Fields.{fleet_state}
use Rattle.fleet.proofs.Replacing.{entry_at, shows_lifted, lifts, IsKept-lifted}
use Rattle.fleet.proofs.fleet.Fleet.lift.Goals as goal

is_some_and : {X : Type 0} (o : Option X) (x : X) → IsSomeAnd o (λ y. y ≡ x) → o ≡ Some x
is_some_and None x h = absurd h
is_some_and (Some y) x h = ap Some h

pub invariant_of-self : goal.invariant_of-self
invariant_of-self c =
    let at : value_at c.in_ok-place.field-0 c.self.inside.vms ≡ Some c.in_ok-vm.vm.now =
    sym c.at.ensures ∙ ap option_copied c.in_ok-vm.was in
    let has : c.in_ok-vm.vm.now.machine ≡ Some c.in_ok-as_ref.field-0.now =
    sym c.as_ref.ensures.value ∙ ap option_copied c.in_ok-as_ref.was in
    let e = entry_at c.in_ok-place.field-0 c.self.inside.vms c.in_ok-vm.vm.now at in
    let below = rw c.in_ok-place.was at c.checked_sub.ensures in
    let number : c.args.number ≡ c.in_ok-place.field-0 + 1 = omega (arith, below.0, below.1) in
    rw c.replace-machine.ensures.after (IsKept-lifted
    c.self.inside.hosts c.self.inside.vms c.args.self.now c.self.view_is c.in_ok-place.field-0
    e.0 c.in_ok-vm.vm.now e.1 c.args.number number c.in_ok-as_ref.field-0.now has
    c.without-out.result c.without-out.ensures.host c.without-out.ensures.remembered
    c.self.invariant)

pub returns-clause-link : goal.returns-clause-link
returns-clause-link c =
    let at : value_at c.in_ok-place.field-0 c.self.inside.vms ≡ Some c.in_ok-vm.vm.now =
    sym c.at.ensures ∙ ap option_copied c.in_ok-vm.was in
    let has : c.in_ok-vm.vm.now.machine ≡ Some c.in_ok-as_ref.field-0.now =
    sym c.as_ref.ensures.value ∙ ap option_copied c.in_ok-as_ref.was in
    let e = entry_at c.in_ok-place.field-0 c.self.inside.vms c.in_ok-vm.vm.now at in
    let below = rw c.in_ok-place.was at c.checked_sub.ensures in
    let number : c.args.number ≡ c.in_ok-place.field-0 + 1 = omega (arith, below.0, below.1) in
    let same : c.replace-machine.result ≡ c.in_ok-vm.vm.now =
    same_Some _ _ (sym c.replace-machine.ensures.was ∙ at) in
    let taken : c.replace-machine.result.machine ≡ Some c.in_ok-as_ref.field-0.now =
    ap (λ (vm : Vm). vm.machine) same ∙ has in
    let answer = rw taken at c.map.ensures.cases in
    is_some_and c.map.result (link_of MIGRATION_CALLER c.in_ok-as_ref.field-0.now) answer
    ∙ sym (lifts c.self.inside.hosts c.self.inside.vms c.args.self.now c.self.view_is
    c.in_ok-place.field-0 e.0 c.in_ok-vm.vm.now e.1 c.args.number number c.in_ok-as_ref.field-0.now
    has
    c.self.invariant)

pub returns-clause-after : goal.returns-clause-after
returns-clause-after c =
    let at : value_at c.in_ok-place.field-0 c.self.inside.vms ≡ Some c.in_ok-vm.vm.now =
    sym c.at.ensures ∙ ap option_copied c.in_ok-vm.was in
    let has : c.in_ok-vm.vm.now.machine ≡ Some c.in_ok-as_ref.field-0.now =
    sym c.as_ref.ensures.value ∙ ap option_copied c.in_ok-as_ref.was in
    let e = entry_at c.in_ok-place.field-0 c.self.inside.vms c.in_ok-vm.vm.now at in
    let below = rw c.in_ok-place.was at c.checked_sub.ensures in
    let number : c.args.number ≡ c.in_ok-place.field-0 + 1 = omega (arith, below.0, below.1) in
    rw c.replace-machine.ensures.after (shows_lifted
    c.self.inside.hosts c.self.inside.vms c.args.self.now c.self.view_is c.in_ok-place.field-0
    e.0 c.in_ok-vm.vm.now e.1 c.args.number number c.in_ok-as_ref.field-0.now has
    c.without-out.result c.without-out.ensures.host c.without-out.ensures.machine
    c.without-out.ensures.remembered)
