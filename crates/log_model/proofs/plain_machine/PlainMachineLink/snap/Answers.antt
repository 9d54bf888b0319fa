use Rattle.std.proofs.Common.{◌+◌, List, subst, sym}
use Rattle.log_model.specs.declared.entry.Act.TheVariants.{Snap}
use Rattle.log_model.specs.declared.entry.Entry.{Entry}
use Rattle.log_model.specs.declared.refusals.LinkRefused.TheVariants.{NoMemory}
use Rattle.log_model.specs.Legal.{ActsFor, taken}
use Rattle.log_model.specs.Refusals.{snap_refusal}
use Rattle.log_model.specs.Link.{LinkState, AddsAct, log_met}
use Rattle.log_model.specs.PlainMachine.{plain_state}
use Rattle.log_model.proofs.Accepted.{snap_stands, plain_legal, plain_adds, log_before}
use Rattle.log_model.proofs.plain_machine.PlainMachineLink.snap.Goals as goal

pub invariant_of-self : goal.invariant_of-self
invariant_of-self c =
    let inside = c.self.inside in
    plain_legal inside.capacities.items inside.caller c.snap.result
    (snap_refusal c.args.must_be_off c.self.inside.entries.items) NoMemory
    (Snap (taken c.self.inside.entries.items + 1) c.args.owner) inside.entries.items
    c.snap.new.log.items c.self.invariant c.snap.ensures.entries
    c.snap.ensures.refused
    (snap_stands inside.capacities.items inside.entries.items inside.caller c.args.must_be_off
    c.args.owner (subst (λ (s : LinkState). ActsFor s.caller c.args.owner) (sym c.self.view_is)
    c.requires))

pub returns-clause-adds : goal.returns-clause-adds
returns-clause-adds c =
    let inside = c.self.inside in
    subst (λ (s : LinkState). AddsAct c.snap.result
    (Snap (taken (log_met c.snap.result
    (plain_state inside.machine inside.capacities.items inside.caller c.snap.new.log.items)) +
    1) c.args.owner) s (plain_state inside.machine inside.capacities.items inside.caller
    c.snap.new.log.items)) c.self.view_is
    (subst (λ (log : List Entry). AddsAct c.snap.result (Snap (taken log + 1) c.args.owner)
    (plain_state inside.machine inside.capacities.items inside.caller inside.entries.items)
    (plain_state inside.machine inside.capacities.items inside.caller c.snap.new.log.items))
    (sym (log_before inside.machine inside.capacities.items inside.caller c.snap.result
    (record {
      who = inside.caller;
      act = Snap (taken c.self.inside.entries.items + 1)
          c.args.owner;
    }) inside.entries.items c.snap.new.log.items c.snap.ensures.entries))
    (plain_adds inside.machine inside.capacities.items inside.caller c.snap.result
    (snap_refusal c.args.must_be_off c.self.inside.entries.items)
    (Snap (taken c.self.inside.entries.items + 1) c.args.owner) inside.entries.items
    c.snap.new.log.items c.self.invariant c.snap.ensures.entries
    c.snap.ensures.refused
    (snap_stands inside.capacities.items inside.entries.items inside.caller c.args.must_be_off
    c.args.owner (subst (λ (s : LinkState). ActsFor s.caller c.args.owner) (sym c.self.view_is)
    c.requires))))
