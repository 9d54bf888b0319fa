use Rattle.std.proofs.Common.{subst}
use Rattle.log_model.specs.declared.entry.Act.TheVariants.{On}
use Rattle.log_model.specs.declared.refusals.LinkRefused.TheVariants.{NoMemory}
use Rattle.log_model.specs.Refusals.{power_on_refusal}
use Rattle.log_model.specs.Link.{LinkState, AddsAct}
use Rattle.log_model.specs.PlainMachine.{plain_state}
use Rattle.log_model.proofs.Accepted.{on_stands, plain_legal, plain_adds}
use Rattle.log_model.proofs.plain_machine.PlainMachineLink.power_on.Goals as goal

pub invariant_of-self : goal.invariant_of-self
invariant_of-self c =
    let inside = c.self.inside in
    plain_legal inside.capacities.items inside.caller c.power_on.result
    (power_on_refusal c.self.inside.entries.items) NoMemory (On) inside.entries.items
    c.power_on.new.log.items c.self.invariant c.power_on.ensures.entries
    c.power_on.ensures.refused
    (on_stands inside.capacities.items inside.entries.items inside.caller)

pub returns-clause-adds : goal.returns-clause-adds
returns-clause-adds c =
    let inside = c.self.inside in
    subst (λ (s : LinkState). AddsAct c.power_on.result (On) s
    (plain_state inside.machine inside.capacities.items inside.caller c.power_on.new.log.items))
    c.self.view_is
    (plain_adds inside.machine inside.capacities.items inside.caller c.power_on.result
    (power_on_refusal c.self.inside.entries.items) (On) inside.entries.items
    c.power_on.new.log.items c.self.invariant c.power_on.ensures.entries
    c.power_on.ensures.refused
    (on_stands inside.capacities.items inside.entries.items inside.caller))
