use Rattle.std.proofs.Common.{◌≡◌, Bool, true, false, cond, Option, Some, List, subst, sym, ap, ◌∙◌}
use Rattle.log_model.specs.declared.entry.Entry.{Entry}
use Rattle.log_model.specs.declared.refusals.LinkRefused.{LinkRefused}
use Rattle.log_model.specs.declared.refusals.LinkRefused.TheVariants.{AlreadyEnabled}
use Rattle.log_model.specs.Legal.{is_enabled}
use Rattle.log_model.specs.Refusals.{spent_refusal, enable_refusal}
use Rattle.source_vm.specs.MachineLog.{LogState}
use Rattle.source_vm.specs.KeptFacts.{was_enabled}
use Rattle.source_vm.proofs.FactLemmas.{was_enabled_is}
use Rattle.source_vm.proofs.machine_log.MachineLog.enable_refusal.Goals as goal

abbrev chosen : List Entry → Bool → Option LinkRefused
chosen log b = cond b (Some AlreadyEnabled) (spent_refusal log)

pub returns-then-is_enabled : goal.returns-then-is_enabled
returns-then-is_enabled c =
    let log : List Entry = c.self.inside.entries.items in
    let enabled : is_enabled log ≡ true =
    sym (was_enabled_is log) ∙ sym (ap was_enabled c.self.invariant.stand.tracked)
    ∙ sym c.is_enabled.ensures ∙ c.if-is_enabled.true in
    subst (λ (s : LogState). Some AlreadyEnabled ≡ enable_refusal s.entries) c.self.view_is
    (sym (ap (chosen log) enabled))

pub returns-else-is_enabled : goal.returns-else-is_enabled
returns-else-is_enabled c =
    let log : List Entry = c.self.inside.entries.items in
    let enabled : is_enabled log ≡ false =
    sym (was_enabled_is log) ∙ sym (ap was_enabled c.self.invariant.stand.tracked)
    ∙ sym c.is_enabled.ensures ∙ c.if-is_enabled.false in
    c.spent_refusal.ensures
    ∙ subst (λ (s : LogState). spent_refusal s.entries ≡ enable_refusal s.entries) c.self.view_is
    (sym (ap (chosen log) enabled))
