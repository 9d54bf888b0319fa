-- Each refusal is the one that the tests before it leave, and the fleet stays sound.
use Rattle.std.proofs.Common.{◌≡◌, ◌+◌, ◌<◌, true, false, is_some, None, Some, length, refl, ap, ◌∙◌, sym}
use Rattle.std.proofs.lemmas.List.Quantifiers.{position-Some}
use Rattle.basics.proofs.Options.{none_is}
use Rattle.source_vm.specs.Machine.{fresh, may_have_disks}
use Rattle.fleet.specs.NameMap.{place_of}
use Rattle.fleet.specs.Fleet.{host_place, with_vm, with_vm_under}
use Rattle.fleet.specs.Fields.{fleet_state}
use Rattle.fleet.proofs.FieldLemmas.{IsKept-vm, shows_vm, host_place-kept}
use Rattle.fleet.proofs.Refused.{vm_taken, no_host, bad_size, vms_full, vm_fits, none_stands}
use Rattle.fleet.proofs.fleet.Fleet.add_vm.Goals as goal

pub returns-then-is_some-clause-refused : goal.returns-then-is_some-clause-refused
returns-then-is_some-clause-refused c =
    let there : is_some (place_of c.args.name.now c.self.inside.vms) ≡ true =
    ap is_some (sym c.place_of.ensures) ∙ sym c.is_some.ensures ∙ c.if-is_some.true in
    rw (vm_taken c.self.inside.hosts c.self.inside.vms c.args.self.now c.self.view_is
    c.args.name.now c.args.host.now c.args.capacities.now there) refl

pub returns-in_default-clause-refused : goal.returns-in_default-clause-refused
returns-in_default-clause-refused c =
    let new : is_some (place_of c.args.name.now c.self.inside.vms) ≡ false =
    ap is_some (sym c.place_of.ensures) ∙ sym c.is_some.ensures ∙ c.if-is_some.false in
    rw (no_host c.self.inside.hosts c.self.inside.vms c.args.self.now c.self.view_is
    c.args.name.now c.args.host.now c.args.capacities.now new
    (sym c.place_of-2.ensures ∙ c.in_default.is)) refl

pub returns-then-not-may_have_disks-clause-refused :
    goal.returns-then-not-may_have_disks-clause-refused
returns-then-not-may_have_disks-clause-refused c =
    let new : is_some (place_of c.args.name.now c.self.inside.vms) ≡ false =
    ap is_some (sym c.place_of.ensures) ∙ sym c.is_some.ensures ∙ c.if-is_some.false in
    rw (bad_size c.self.inside.hosts c.self.inside.vms c.args.self.now c.self.view_is
    c.args.name.now c.args.host.now c.args.capacities.now c.in-Some.place new
    (sym c.place_of-2.ensures ∙ c.in-Some.is)
    (sym c.may_have_disks.ensures ∙ c.if-not-may_have_disks.true)) refl

pub returns-then-len-ge-MAX_VMS-clause-refused : goal.returns-then-len-ge-MAX_VMS-clause-refused
returns-then-len-ge-MAX_VMS-clause-refused c =
    let new : is_some (place_of c.args.name.now c.self.inside.vms) ≡ false =
    ap is_some (sym c.place_of.ensures) ∙ sym c.is_some.ensures ∙ c.if-is_some.false in
    rw (vms_full c.self.inside.hosts c.self.inside.vms c.args.self.now c.self.view_is
    c.args.name.now c.args.host.now c.args.capacities.now c.in-Some.place new
    (sym c.place_of-2.ensures ∙ c.in-Some.is)
    (sym c.may_have_disks.ensures ∙ c.if-not-may_have_disks.false)
    (rw (← c.len.ensures) c.if-len-ge-MAX_VMS.true)) refl

pub returns-in_err-machine-clause-refused : goal.returns-in_err-machine-clause-refused
returns-in_err-machine-clause-refused c =
    let new : is_some (place_of c.args.name.now c.self.inside.vms) ≡ false =
    ap is_some (sym c.place_of.ensures) ∙ sym c.is_some.ensures ∙ c.if-is_some.false in
    none_stands _ _
    (vm_fits c.self.inside.hosts c.self.inside.vms c.args.self.now c.self.view_is
    c.args.name.now c.args.host.now c.args.capacities.now c.in-Some.place new
    (sym c.place_of-2.ensures ∙ c.in-Some.is)
    (sym c.may_have_disks.ensures ∙ c.if-not-may_have_disks.false)
    (rw (← c.len.ensures) c.if-len-ge-MAX_VMS.false)) c.from_residual.ensures.1

pub returns-in_err-push-clause-refused : goal.returns-in_err-push-clause-refused
returns-in_err-push-clause-refused c =
    let new : is_some (place_of c.args.name.now c.self.inside.vms) ≡ false =
    ap is_some (sym c.place_of.ensures) ∙ sym c.is_some.ensures ∙ c.if-is_some.false in
    none_stands _ _
    (vm_fits c.self.inside.hosts c.self.inside.vms c.args.self.now c.self.view_is
    c.args.name.now c.args.host.now c.args.capacities.now c.in-Some.place new
    (sym c.place_of-2.ensures ∙ c.in-Some.is)
    (sym c.may_have_disks.ensures ∙ c.if-not-may_have_disks.false)
    (rw (← c.len.ensures) c.if-len-ge-MAX_VMS.false)) c.from_residual-in_err-push.ensures.1

pub invariant_of-self-2 : goal.invariant_of-self-2
invariant_of-self-2 c =
    let new : is_some (place_of c.args.name.now c.self.inside.vms) ≡ false =
    ap is_some (sym c.place_of.ensures) ∙ sym c.is_some.ensures ∙ c.if-is_some.false in
    let known : place_of c.args.host.now c.self.inside.hosts ≡ Some c.in-Some.place =
    sym c.place_of-2.ensures ∙ c.in-Some.is in
    let made : c.of-vm.result.machine
    ≡ Some (fresh (length c.self.inside.vms + 1) c.args.capacities.now) =
    c.of-vm.ensures.machine ∙ ap Some c.in_ok-machine.ensures
    ∙ ap (λ n. Some (fresh (n + 1) c.args.capacities.now)) c.len-2.ensures in
    rw c.in_ok-push.ensures.ok
    (IsKept-vm c.self.inside.hosts c.self.inside.vms c.args.name.now c.of-vm.result c.in-Some.place
    c.args.capacities.now c.of-vm.ensures.host made c.self.invariant c.requires
    (position-Some _ c.self.inside.hosts c.in-Some.place
    (c.args.name.now, record { limit = 0 }) known).0
    (sym c.may_have_disks.ensures ∙ c.if-not-may_have_disks.false)
    (none_is _ new) (rw (← c.len.ensures) c.if-len-ge-MAX_VMS.false))

pub returns-clause-ok : goal.returns-clause-ok
returns-clause-ok c =
    let known : host_place c.args.host.now c.args.self.now ≡ Some c.in-Some.place =
    ap (host_place c.args.host.now) (sym c.self.view_is)
    ∙ host_place-kept c.self.inside.hosts c.self.inside.vms c.args.host.now
    ∙ sym c.place_of-2.ensures ∙ c.in-Some.is in
    let made : c.of-vm.result.machine
    ≡ Some (fresh (length c.self.inside.vms + 1) c.args.capacities.now) =
    c.of-vm.ensures.machine ∙ ap Some c.in_ok-machine.ensures
    ∙ ap (λ n. Some (fresh (n + 1) c.args.capacities.now)) c.len-2.ensures in
    rw (known, c.in_ok-push.ensures.ok)
    (shows_vm c.self.inside.hosts c.self.inside.vms c.args.name.now c.of-vm.result c.in-Some.place
    c.args.capacities.now c.of-vm.ensures.host made
    ∙ ap (with_vm c.args.name.now c.in-Some.place c.args.capacities.now) c.self.view_is)

pub returns-clause-refused : goal.returns-clause-refused
returns-clause-refused c =
    let new : is_some (place_of c.args.name.now c.self.inside.vms) ≡ false =
    ap is_some (sym c.place_of.ensures) ∙ sym c.is_some.ensures ∙ c.if-is_some.false in
    rw (vm_fits c.self.inside.hosts c.self.inside.vms c.args.self.now c.self.view_is
    c.args.name.now c.args.host.now c.args.capacities.now c.in-Some.place new
    (sym c.place_of-2.ensures ∙ c.in-Some.is)
    (sym c.may_have_disks.ensures ∙ c.if-not-may_have_disks.false)
    (rw (← c.len.ensures) c.if-len-ge-MAX_VMS.false)) tt
