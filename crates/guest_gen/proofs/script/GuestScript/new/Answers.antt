use Rattle.std.proofs.Common.{sym, subst, All}
use Rattle.guest_gen.specs.Script.{offered, Lies}
use Rattle.guest_gen.proofs.Writes.{all_lie}
use Rattle.guest_gen.proofs.script.GuestScript.new.Goals as goal

pub returns-clause-lie : goal.returns-clause-lie
returns-clause-lie c =
    subst (λ xs. All (Lies c.args.capacities.now) (offered c.args.seed c.args.count xs))
    (sym c.in_ok-capacities.ensures.items)
    (all_lie c.args.seed c.args.count c.args.capacities.now c.requires.disks.0
    (λ k d lt. (c.requires.sizes k d lt).0))
