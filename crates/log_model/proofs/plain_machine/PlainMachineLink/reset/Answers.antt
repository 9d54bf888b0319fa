use Rattle.std.proofs.Common.{ℕ, List, subst}
use Rattle.log_model.specs.declared.entry.Act.TheVariants.{Reset}
use Rattle.log_model.specs.declared.refusals.LinkRefused.TheVariants.{NoMemory}
use Rattle.log_model.specs.Refusals.{reset_refusal}
use Rattle.basics.specs.Refusal.{IsRefusedOr}
use Rattle.log_model.specs.Link.{LinkState, AddsAct}
use Rattle.log_model.specs.PlainMachine.{plain_state}
use Rattle.log_model.proofs.Accepted.{reset_stands, plain_legal, plain_adds}
use Rattle.log_model.proofs.plain_machine.PlainMachineLink.reset.Goals as goal

pub invariant_of-self : goal.invariant_of-self
invariant_of-self c =
    let inside = c.self.inside in
    plain_legal inside.capacities.items inside.caller c.reset.result
    (reset_refusal c.self.inside.capacities.items c.args.disk c.self.inside.entries.items)
    NoMemory (Reset c.args.disk) inside.entries.items c.reset.new.log.items c.self.invariant
    c.reset.ensures.entries
    (subst (λ (xs : List ℕ). IsRefusedOr (reset_refusal xs c.args.disk inside.entries.items)
    NoMemory c.reset.result) c.as_slice.ensures.value c.reset.ensures.refused)
    (reset_stands inside.capacities.items inside.entries.items inside.caller c.args.disk)

pub returns-clause-adds : goal.returns-clause-adds
returns-clause-adds c =
    let inside = c.self.inside in
    subst (λ (s : LinkState). AddsAct c.reset.result (Reset c.args.disk) s
    (plain_state inside.machine inside.capacities.items inside.caller c.reset.new.log.items))
    c.self.view_is
    (plain_adds inside.machine inside.capacities.items inside.caller c.reset.result
    (reset_refusal c.self.inside.capacities.items c.args.disk c.self.inside.entries.items)
    (Reset c.args.disk) inside.entries.items c.reset.new.log.items c.self.invariant
    c.reset.ensures.entries
    (subst (λ (xs : List ℕ). IsRefusedOr (reset_refusal xs c.args.disk inside.entries.items)
    NoMemory c.reset.result) c.as_slice.ensures.value c.reset.ensures.refused)
    (reset_stands inside.capacities.items inside.entries.items inside.caller c.args.disk))
