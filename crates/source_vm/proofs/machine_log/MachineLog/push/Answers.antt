use Rattle.std.proofs.Common.{◌≡◌, cond, is_ok, ◌++◌, ◌∷◌, [], List, length, subst, sym, ap, ◌∙◌, rules}
use Rattle.log_model.specs.declared.entry.Act.{Act}
use Rattle.log_model.specs.declared.entry.Entry.{Entry}
use Rattle.log_model.specs.Legal.{Legal, all_of}
use Rattle.log_model.specs.Laws.{FitsBehind}
use Rattle.log_model.proofs.LegalLogs.{legal_grows}
use Rattle.source_vm.specs.declared.kept_facts.KeptFacts.{KeptFacts}
use Rattle.source_vm.specs.declared.live.LiveSnap.{LiveSnap}
use Rattle.source_vm.specs.MachineLog.{LogState}
use Rattle.source_vm.specs.KeptFacts.{facts_after, FactsStand}
use Rattle.source_vm.specs.Live.{live_after}
use Rattle.source_vm.proofs.FactLemmas.{stand_after}
use Rattle.source_vm.proofs.machine_log.MachineLog.push.Goals as goal

pub invariant_of-self : goal.invariant_of-self
invariant_of-self c =
    let inside = c.self.inside in
    let log : List Entry = inside.entries.items in
    let act : Act = c.args.act in
    let e : Entry = record { who = c.args.who; act = act } in
    let fits : FitsBehind (all_of inside.capacities.items) log c.args.who act =
    subst (λ (s : LogState). FitsBehind (all_of s.capacities) s.entries c.args.who act)
    (sym c.self.view_is) c.requires.fits in
    let entries : c.push.new.self.items ≡ log ++ e ∷ [] =
    c.push.ensures.items ∙ ap (λ r. cond (is_ok r) (log ++ e ∷ []) log) c.unwrap.ensures in
    let place : c.len.result ≡ length log = search rules in
    let facts : c.after-self-inside.result ≡ facts_after (length log) act inside.facts =
    c.after-self-inside.ensures ∙ ap (λ n. facts_after n act inside.facts) place in
    record {
      legal = subst (Legal (all_of inside.capacities.items)) (sym entries)
          (legal_grows (all_of inside.capacities.items) log e c.self.invariant.legal fits.1 fits.0);
      stand = subst (λ (f : KeptFacts). FactsStand f c.follow.new.live.items c.push.new.self.items)
          (sym facts)
          (subst (λ (xs : List LiveSnap). FactsStand (facts_after (length log) act inside.facts) xs
          c.push.new.self.items) (sym c.follow.ensures)
          (subst (FactsStand (facts_after (length log) act inside.facts)
          (live_after act inside.live.items)) (sym entries)
          (stand_after inside.facts inside.live.items log c.args.who c.self.invariant.stand
          (all_of inside.capacities.items) act fits.0)));
      entry_room = λ h. absurd (cc);
      live_room = λ h. absurd (cc);
    }
