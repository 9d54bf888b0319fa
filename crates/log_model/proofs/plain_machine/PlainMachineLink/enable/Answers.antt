use Rattle.std.proofs.Common.{subst}
use Rattle.log_model.specs.declared.entry.Act.TheVariants.{Enable}
use Rattle.log_model.specs.declared.refusals.LinkRefused.TheVariants.{NoMemory}
use Rattle.log_model.specs.Refusals.{enable_refusal}
use Rattle.log_model.specs.Link.{LinkState, AddsAct}
use Rattle.log_model.specs.PlainMachine.{plain_state}
use Rattle.log_model.proofs.Accepted.{enable_stands, plain_legal, plain_adds}
use Rattle.log_model.proofs.plain_machine.PlainMachineLink.enable.Goals as goal

pub invariant_of-self : goal.invariant_of-self
invariant_of-self c =
    let inside = c.self.inside in
    plain_legal inside.capacities.items inside.caller c.enable.result
    (enable_refusal c.self.inside.entries.items) NoMemory (Enable) inside.entries.items
    c.enable.new.log.items c.self.invariant c.enable.ensures.entries
    c.enable.ensures.refused
    (enable_stands inside.capacities.items inside.entries.items inside.caller)

pub returns-clause-adds : goal.returns-clause-adds
returns-clause-adds c =
    let inside = c.self.inside in
    subst (λ (s : LinkState). AddsAct c.enable.result (Enable) s
    (plain_state inside.machine inside.capacities.items inside.caller c.enable.new.log.items))
    c.self.view_is
    (plain_adds inside.machine inside.capacities.items inside.caller c.enable.result
    (enable_refusal c.self.inside.entries.items) (Enable) inside.entries.items
    c.enable.new.log.items c.self.invariant c.enable.ensures.entries
    c.enable.ensures.refused
    (enable_stands inside.capacities.items inside.entries.items inside.caller))
