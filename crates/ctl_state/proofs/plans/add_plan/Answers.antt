use Rattle.std.proofs.Common.{◌≡◌, ℕ, List, [], ◌∷◌, ◌++◌, ap, sym, ◌∙◌}
use Rattle.std.specs.BTreeMap.{get}
use Rattle.std.specs.Cmp.Lexicographic.{slice_cmp}
use Rattle.std.specs.Ordering.{nat_cmp}
use Rattle.plan_model.specs.declared.plan.Plan.{Plan}
use Rattle.plan_model.specs.Plans.{is_taken}
use Rattle.ctl_state.specs.Value.{plan_named}
use Rattle.ctl_state.proofs.NameFacts.{name_added}
use Rattle.ctl_state.proofs.plans.add_plan.Goals as goal

pub returns-clause-names : goal.returns-clause-names
returns-clause-names c = λ q.
    let plans = c.args.plans.now.items in
    let name = c.in_ok-clone.ensures.cases in
    let made : Plan = record {
      number = c.args.plan;
      name = c.in_ok-clone.field-0;
      interval = c.args.interval;
      vms = c.in_ok-clone-2.field-0;
    } in
    let free = ap (λ (n : List ℕ). is_taken n plans) name ∙ c.requires.new in
    name_added plans made c.in_ok-key.key q (get (slice_cmp nat_cmp) c.args.names.now q)
    (get (slice_cmp nat_cmp) c.insert.new.self q) free
    (c.in_ok-key.ensures.cases ∙ sym name) (c.in_ok-insert.ensures.updates.0 q)
    (c.requires.named q)
    ∙ sym (ap (λ (ps : List Plan). plan_named ps q)
    (c.in_ok-push.ensures.items ∙ ap (λ (ps : List Plan). ps ++ made ∷ []) c.reserve.ensures.items))
