-- A snapshot that has no place wasn't taken.
use Rattle.std.proofs.Common.{◌<◌, length, sym, ap, ◌∙◌, arith}
use Rattle.log_model.specs.Legal.{all_of, taken}
use Rattle.log_model.specs.Machine.{MachineState}
use Rattle.ctl_state.specs.Asks.{is_removed}
use Rattle.log_facts.proofs.LookupLemmas.{never_removed}
use Rattle.log_facts.proofs.log_facts.LogFacts.was_removed.Goals as goal

pub returns-in-None : goal.returns-in-None
returns-in-None c =
    let at = c.self.inside.machine.value in
    let past : taken at.log < c.args.snap =
    omega (
      arith,
      c.in-None.ensures.lookup.3,
      c.self.invariant.by_number.up_to_last,
      ap length
          c.deref.ensures.value,
    ) in
    sym (ap (λ (a : MachineState). is_removed c.args.snap a.log) (sym c.self.view_is)
    ∙ never_removed (all_of at.capacities) c.args.snap at.log c.self.invariant.legal past)
