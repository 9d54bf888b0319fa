use Rattle.std.proofs.Common.{◌≡◌, List, length, subst, ap, ◌∙◌, rules}
use Rattle.log_model.specs.declared.entry.Entry.{Entry}
use Rattle.log_model.specs.declared.link.Facts.{Facts}
use Rattle.log_model.specs.Legal.{is_enabled}
use Rattle.log_model.specs.Marks.{tracking}
use Rattle.log_model.specs.Link.{facts_of, is_active}
use Rattle.source_vm.specs.MachineLog.{LogState}
use Rattle.source_vm.specs.KeptFacts.{was_enabled}
use Rattle.source_vm.proofs.FactLemmas.{was_enabled_is}
use Rattle.source_vm.proofs.machine_log.MachineLog.facts.Goals as goal

pub returns : goal.returns
returns c =
    let log : List Entry = c.self.inside.entries.items in
    let stand = c.self.invariant.stand in
    let told : Facts = record {
      on = c.self.inside.facts.on;
      entries = c.len.result;
      enabled = c.is_enabled.result;
      tracking = c.is_active.result;
      snaps = c.self.inside.facts.taken;
    } in
    let entries : c.len.result ≡ length log = search rules in
    let enabled : c.is_enabled.result ≡ is_enabled log =
    c.is_enabled.ensures ∙ ap was_enabled stand.tracked ∙ was_enabled_is log in
    let active : c.is_active.result ≡ is_active (tracking log) =
    c.is_active.ensures ∙ ap is_active stand.tracked in
    subst (λ (s : LogState). told ≡ facts_of s.entries) c.self.view_is
    (λ i. record {
      on = stand.on i;
      entries = entries i;
      enabled = enabled i;
      tracking = active i;
      snaps = stand.snapped i;
    })
