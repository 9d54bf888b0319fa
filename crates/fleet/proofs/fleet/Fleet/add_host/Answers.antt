-- Each refusal is the one that the tests before it leave, and the fleet stays sound.
use Rattle.std.proofs.Common.{◌≡◌, true, false, is_some, None, refl, ap, ◌∙◌, sym}
use Rattle.basics.proofs.Options.{none_is}
use Rattle.fleet.specs.NameMap.{place_of}
use Rattle.fleet.proofs.FieldLemmas.{IsKept-host}
use Rattle.fleet.proofs.Refused.{host_taken, host_full, host_fits, none_stands}
use Rattle.fleet.proofs.fleet.Fleet.add_host.Goals as goal

pub returns-then-is_some-clause-refused : goal.returns-then-is_some-clause-refused
returns-then-is_some-clause-refused c =
    let there : is_some (place_of c.args.name.now c.self.inside.hosts) ≡ true =
    ap is_some (sym c.place_of.ensures) ∙ sym c.is_some.ensures ∙ c.if-is_some.true in
    rw (host_taken c.self.inside.hosts c.self.inside.vms c.args.self.now c.self.view_is
    c.args.name.now there) refl

pub returns-then-len-ge-MAX_HOSTS-clause-refused : goal.returns-then-len-ge-MAX_HOSTS-clause-refused
returns-then-len-ge-MAX_HOSTS-clause-refused c =
    let new : is_some (place_of c.args.name.now c.self.inside.hosts) ≡ false =
    ap is_some (sym c.place_of.ensures) ∙ sym c.is_some.ensures ∙ c.if-is_some.false in
    rw (host_full c.self.inside.hosts c.self.inside.vms c.args.self.now c.self.view_is
    c.args.name.now
    new (rw (← c.len.ensures) c.if-len-ge-MAX_HOSTS.true)) refl

pub returns-in_err-push-clause-refused : goal.returns-in_err-push-clause-refused
returns-in_err-push-clause-refused c =
    let new : is_some (place_of c.args.name.now c.self.inside.hosts) ≡ false =
    ap is_some (sym c.place_of.ensures) ∙ sym c.is_some.ensures ∙ c.if-is_some.false in
    none_stands _ _
    (host_fits c.self.inside.hosts c.self.inside.vms c.args.self.now c.self.view_is
    c.args.name.now
    new (rw (← c.len.ensures) c.if-len-ge-MAX_HOSTS.false)) c.from_residual.ensures.1

pub invariant_of-self-2 : goal.invariant_of-self-2
invariant_of-self-2 c =
    let new : is_some (place_of c.args.name.now c.self.inside.hosts) ≡ false =
    ap is_some (sym c.place_of.ensures) ∙ sym c.is_some.ensures ∙ c.if-is_some.false in
    rw c.in_ok-push.ensures.ok
    (IsKept-host c.self.inside.hosts c.self.inside.vms c.args.name.now
    (record { limit = c.args.limit })
    c.self.invariant c.requires.named c.requires.at_least c.requires.at_most (none_is _ new)
    (rw (← c.len.ensures) c.if-len-ge-MAX_HOSTS.false))

pub returns-clause-refused : goal.returns-clause-refused
returns-clause-refused c =
    let new : is_some (place_of c.args.name.now c.self.inside.hosts) ≡ false =
    ap is_some (sym c.place_of.ensures) ∙ sym c.is_some.ensures ∙ c.if-is_some.false in
    rw (host_fits c.self.inside.hosts c.self.inside.vms c.args.self.now c.self.view_is
    c.args.name.now
    new (rw (← c.len.ensures) c.if-len-ge-MAX_HOSTS.false)) tt
