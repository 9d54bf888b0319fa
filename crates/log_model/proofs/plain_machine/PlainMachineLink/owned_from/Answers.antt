use Rattle.std.proofs.Common.{List, subst, sym}
use Rattle.log_model.specs.declared.entry.Entry.{Entry}
use Rattle.log_model.specs.Legal.{all_of, Legal}
use Rattle.log_model.specs.Link.{LinkState, IsLeastOwned}
use Rattle.log_model.proofs.OwnedLaws.{least_of_all}
use Rattle.log_model.proofs.plain_machine.PlainMachineLink.owned_from.Goals as goal

pub returns-clause-least : goal.returns-clause-least
returns-clause-least c =
    let log : List Entry = c.as_slice-log.result.now in
    let legal : Legal (all_of c.self.inside.capacities.items) log =
    subst (Legal (all_of c.self.inside.capacities.items)) (sym c.as_slice-log.ensures.value)
    c.self.invariant in
    subst (λ (s : LinkState). IsLeastOwned c.args.owner c.args.from s.seen c.least_owned.result)
    c.self.view_is
    (subst (λ (xs : List Entry). IsLeastOwned c.args.owner c.args.from xs c.least_owned.result)
    c.as_slice-log.ensures.value
    (least_of_all (all_of c.self.inside.capacities.items) log c.args.owner c.args.from
    c.least_owned.result legal c.least_owned.ensures))
