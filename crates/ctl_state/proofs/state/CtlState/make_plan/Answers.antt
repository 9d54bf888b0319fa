use Rattle.std.proofs.Common.{◌≡◌, ℕ, ◌+◌, ◌==◌, Bool, true, false, ◌&&◌, not, List, [], ◌∷◌, ◌++◌, length, Result, refl, ap, subst, sym, ◌∙◌}
use Rattle.std.specs.List.{list_any}
use Rattle.std.proofs.lemmas.Bool.{and_parts, not-true}
use Rattle.basics.specs.declared.refusal.NoMemory.{NoMemory}
use Rattle.basics.proofs.Results.{where_ok, where_err}
use Rattle.plan_model.specs.declared.plan.Plan.{Plan}
use Rattle.plan_model.specs.Plans.{is_taken}
use Rattle.ctl_state.specs.declared.plans.PlanCourse.{PlanCourse}
use Rattle.ctl_state.specs.Fold.{plan_of}
use Rattle.ctl_state.specs.Value.{CtlValue, new_course, is_at_work}
use Rattle.ctl_state.specs.MayStand.{is_new_plan, are_free, has_double}
use Rattle.ctl_state.specs.Lookups.{IsKept, AreNames}
use Rattle.ctl_state.specs.Work.{HasNone, Joins, Leaves}
use Rattle.ctl_state.proofs.KeptFacts.{kept_plan, kept_work, kept_names, taken_back, free_in_map}
use Rattle.ctl_state.proofs.NextFacts.{none_doubled}
use Rattle.ctl_state.proofs.state.CtlState.make_plan.Goals as goal

pub add_plan-added-requires-clause-new : goal.add_plan-added-requires-clause-new
add_plan-added-requires-clause-new c =
    let N : CtlValue → Type 0 = λ v. is_new_plan v c.args.plan c.args.name.now ≡ true in
    let new = subst N (sym c.self.view_is)
    (sym c.is_new_plan.ensures ∙ c.if-not-is_new_plan.false) in
    not-true (is_taken c.args.name.now c.self.inside.plans.items)
    (and_parts (c.args.plan == length c.self.inside.plans.items + 1) _ new).1

pub invariant_of-self-2 : goal.invariant_of-self-2
invariant_of-self-2 c =
    let kept = c.self.inside in
    let vms = c.args.vms.now in
    let v : CtlValue = record {
      plans = kept.plans.items;
      courses = kept.courses.items;
      migrations = kept.migrations.items;
    } in
    let F : CtlValue → Type 0 = λ now. are_free now vms ≡ true in
    let G : List ℕ → Type 0 = λ ms. are_free c.args.self.now ms ≡ true in
    let free = subst F (sym c.self.view_is) (subst G c.as_slice.ensures.numbers
    (sym c.are_free.ensures ∙ c.if-not-are_free.false)) in
    let none = free_in_map v kept.names kept.work vms c.self.invariant
    (not-true (list_any (is_at_work v) vms) (and_parts (not (length vms == 0)) _ free).1) in
    let J : List ℕ → Type 0 = λ ms. Joins kept.work c.put_to_work.new.work ms in
    let joins = subst J c.as_slice-2.ensures.numbers c.in_ok-put_to_work.ensures.put in
    let D : List ℕ → Type 0 = λ ms. has_double ms ≡ false in
    let differ = subst D c.as_slice-2.ensures.numbers
    (none_doubled (has_double c.as_slice-2.result.now) c.in_ok-put_to_work.field-0
    c.in_ok-put_to_work.ensures.refused) in
    let p = plan_of c.args.plan c.args.name.now c.args.interval vms in
    let r = c.add_plan-added.result in
    let ok = sym c.is_err.ensures.value ∙ c.if-is_err.false in
    let plans : c.add_plan-added.new.plans.items ≡ kept.plans.items ++ p ∷ [] =
    where_ok r ok c.add_plan-added.ensures.plan in
    let courses : c.add_plan-added.new.courses.items ≡ kept.courses.items ++ new_course ∷ [] =
    where_ok r ok c.add_plan-added.ensures.course in
    let A : List Plan → Type 0 = λ ps. IsKept ps c.add_plan-added.new.courses.items
    kept.migrations.items c.add_plan-added.new.names c.put_to_work.new.work in
    let B : List PlanCourse → Type 0 = λ cs. IsKept (kept.plans.items ++ p ∷ []) cs
    kept.migrations.items c.add_plan-added.new.names c.put_to_work.new.work in
    let S : List Plan → Type 0 = λ ps. AreNames ps c.add_plan-added.new.names in
    let names = subst S plans c.add_plan-added.ensures.names in
    subst A (sym plans) (subst B (sym courses)
    (kept_plan kept.plans.items kept.courses.items kept.migrations.items kept.names
    c.add_plan-added.new.names kept.work c.put_to_work.new.work p differ none joins names
    c.self.invariant))

pub invariant_of-self-then-is_err : goal.invariant_of-self-then-is_err
invariant_of-self-then-is_err c =
    let kept = c.self.inside in
    let vms = c.args.vms.now in
    let v : CtlValue = record {
      plans = kept.plans.items;
      courses = kept.courses.items;
      migrations = kept.migrations.items;
    } in
    let F : CtlValue → Type 0 = λ now. are_free now vms ≡ true in
    let G : List ℕ → Type 0 = λ ms. are_free c.args.self.now ms ≡ true in
    let free = subst F (sym c.self.view_is) (subst G c.as_slice.ensures.numbers
    (sym c.are_free.ensures ∙ c.if-not-are_free.false)) in
    let none = free_in_map v kept.names kept.work vms c.self.invariant
    (not-true (list_any (is_at_work v) vms) (and_parts (not (length vms == 0)) _ free).1) in
    let J : List ℕ → Type 0 = λ ms. Joins kept.work c.put_to_work.new.work ms in
    let joins = subst J c.as_slice-2.ensures.numbers c.in_ok-put_to_work.ensures.put in
    let L : List ℕ → Type 0 = λ ms. Leaves c.put_to_work.new.work c.take_from_work.new.work ms in
    let leaves = subst L c.as_slice-then-is_err.ensures.numbers c.take_from_work.ensures in
    let back = taken_back kept.work c.put_to_work.new.work c.take_from_work.new.work vms none joins
    leaves in
    let r = c.add_plan-added.result in
    let failed = sym c.is_err.ensures.value ∙ c.if-is_err.true in
    let plans : c.add_plan-added.new.plans.items ≡ kept.plans.items =
    where_err r failed c.add_plan-added.ensures.plans_kept in
    let courses : c.add_plan-added.new.courses.items ≡ kept.courses.items =
    where_err r failed c.add_plan-added.ensures.courses_kept in
    let A : List Plan → Type 0 = λ ps. IsKept ps c.add_plan-added.new.courses.items
    kept.migrations.items c.add_plan-added.new.names c.take_from_work.new.work in
    let B : List PlanCourse → Type 0 = λ cs. IsKept kept.plans.items cs kept.migrations.items
    c.add_plan-added.new.names c.take_from_work.new.work in
    let S : List Plan → Type 0 = λ ps. AreNames ps c.add_plan-added.new.names in
    let names = subst S plans c.add_plan-added.ensures.names in
    subst A (sym plans) (subst B (sym courses)
    (kept_names kept.plans.items kept.courses.items kept.migrations.items kept.names
    c.add_plan-added.new.names c.take_from_work.new.work names
    (kept_work kept.plans.items kept.courses.items kept.migrations.items kept.names kept.work
    c.take_from_work.new.work back c.self.invariant)))
