use Rattle.std.proofs.Common.{subst}
use Rattle.log_model.specs.declared.entry.Act.TheVariants.{Remove}
use Rattle.log_model.specs.declared.refusals.LinkRefused.TheVariants.{NoMemory}
use Rattle.log_model.specs.Refusals.{remove_refusal}
use Rattle.log_model.specs.Link.{LinkState, AddsAct}
use Rattle.log_model.specs.PlainMachine.{plain_state}
use Rattle.log_model.proofs.Accepted.{remove_stands, plain_legal, plain_adds}
use Rattle.log_model.proofs.plain_machine.PlainMachineLink.remove.Goals as goal

pub invariant_of-self : goal.invariant_of-self
invariant_of-self c =
    let inside = c.self.inside in
    plain_legal inside.capacities.items inside.caller c.remove.result
    (remove_refusal c.self.inside.caller c.args.owner c.args.id c.self.inside.entries.items)
    NoMemory (Remove c.args.id) inside.entries.items c.remove.new.log.items c.self.invariant
    c.remove.ensures.entries
    c.remove.ensures.refused
    (remove_stands inside.capacities.items inside.entries.items inside.caller c.args.owner
    c.args.id)

pub returns-clause-adds : goal.returns-clause-adds
returns-clause-adds c =
    let inside = c.self.inside in
    subst (λ (s : LinkState). AddsAct c.remove.result (Remove c.args.id) s
    (plain_state inside.machine inside.capacities.items inside.caller c.remove.new.log.items))
    c.self.view_is
    (plain_adds inside.machine inside.capacities.items inside.caller c.remove.result
    (remove_refusal c.self.inside.caller c.args.owner c.args.id c.self.inside.entries.items)
    (Remove c.args.id) inside.entries.items c.remove.new.log.items c.self.invariant
    c.remove.ensures.entries
    c.remove.ensures.refused
    (remove_stands inside.capacities.items inside.entries.items inside.caller c.args.owner
    c.args.id))
