-- A snapshot that has no place wasn't taken.
use Rattle.std.proofs.Common.{◌<◌, length, ap, ◌∙◌, arith}
use Rattle.std.proofs.lemmas.Bool.{false≢true}
use Rattle.log_model.specs.declared.entry.Owner.TheVariants.{Migration as OfMigration}
use Rattle.log_model.specs.Legal.{all_of, taken, owner_of}
use Rattle.log_model.specs.Machine.{MachineState}
use Rattle.log_facts.proofs.LookupLemmas.{no_owner}
use Rattle.log_facts.proofs.log_facts.LogFacts.is_owned.Goals as goal

pub returns-in-None : goal.returns-in-None
returns-in-None c =
    let at = c.self.inside.machine.value in
    let past : taken at.log < c.args.snap =
    omega (
      arith,
      c.in-None.ensures.lookup.3,
      c.self.invariant.by_number.up_to_last,
      ap length
          c.deref.ensures.value,
    ) in (
      λ is. absurd (false≢true is),
      λ owns. absurd (no_owner (all_of at.capacities) c.args.snap (OfMigration c.args.mig) at.log
          c.self.invariant.legal past
          (ap (λ (a : MachineState). owner_of c.args.snap a.log) c.self.view_is ∙ owns)),
    )
