use Rattle.std.proofs.Common.{ℕ, List, length, subst}
use Rattle.log_model.specs.declared.entry.Act.TheVariants.{Write}
use Rattle.log_model.specs.declared.refusals.WriteRefused.TheVariants.{NoMemory}
use Rattle.log_model.specs.Legal.{all_of}
use Rattle.log_model.specs.Refusals.{write_refusal}
use Rattle.basics.specs.Refusal.{IsRefusedOr}
use Rattle.log_model.proofs.Accepted.{write_stands, written_bounded, plain_legal}
use Rattle.log_model.proofs.plain_machine.PlainMachine.write.Goals as goal

pub write-requires : goal.write-requires
write-requires c = written_bounded (all_of c.self.inside.capacities.items)
    c.self.inside.entries.items c.self.invariant

pub invariant_of-self : goal.invariant_of-self
invariant_of-self c =
    let inside = c.self.inside in
    let sectors = c.args.sectors.now in
    plain_legal inside.capacities.items c.args.who c.write.result
    (write_refusal inside.capacities.items c.args.disk c.args.first (length sectors)
    inside.entries.items) NoMemory
    (Write c.args.disk c.args.first sectors) inside.entries.items c.write.new.log.items
    c.self.invariant c.write.ensures.entries
    (subst (λ (xs : List ℕ). IsRefusedOr
    (write_refusal xs c.args.disk c.args.first (length sectors) inside.entries.items) NoMemory
    c.write.result) c.as_slice.ensures.value c.write.ensures.refused)
    (write_stands inside.capacities.items inside.entries.items c.args.who c.args.disk c.args.first
    sectors)
