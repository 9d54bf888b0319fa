use Rattle.std.proofs.Common.{◌≡◌, ℕ, List, Some, None, cond, refl, ap, subst, sym, ◌∙◌, arith}
use Rattle.std.specs.BTreeMap.{get}
use Rattle.std.specs.Ordering.{nat_cmp}
use Rattle.ctl_state.specs.declared.migration.Migration.{Migration}
use Rattle.ctl_state.specs.declared.plans.PlanCourse.{PlanCourse}
use Rattle.ctl_state.specs.Steps.{end_by}
use Rattle.ctl_state.specs.Fold.{with_ended}
use Rattle.ctl_state.specs.Value.{CtlValue, numbered, migration_in, change_numbered}
use Rattle.ctl_state.specs.Lookups.{IsKept}
use Rattle.ctl_state.proofs.KeptFacts.{kept_end, kept_course, is_eq-nat_cmp}
use Rattle.ctl_state.proofs.StepFacts.{may_end_live, end_ends}
use Rattle.ctl_state.proofs.state.CtlState.end_migration.Goals as goal

pub invariant_of-self : goal.invariant_of-self
invariant_of-self c =
    let kept = c.self.inside in
    let m = c.in-Some.m.now in
    let mig = c.args.mig in
    let how = c.args.how in
    let place = c.args.place in
    let found : numbered kept.migrations.items mig ≡ Some m =
    ap (λ (v : CtlValue). migration_in v mig) c.self.view_is ∙ sym c.in-Some.ensures in
    let may = sym c.may_end.ensures ∙ c.if-may_end.true in
    let f : Migration → Migration = end_by how in
    let after = change_numbered kept.migrations.items mig f in
    let removed = λ (vm : ℕ). c.remove.ensures.updates.0 vm
    ∙ ap (λ b. cond b None (get nat_cmp kept.work vm)) (is_eq-nat_cmp m.vm vm) in
    let ended = kept_end kept.plans.items kept.courses.items kept.migrations.items kept.names
    kept.work c.remove.new.self mig m f found (may_end_live m how place may)
    (end_ends m how place may) removed c.self.invariant in
    let both = kept_course kept.plans.items kept.courses.items after kept.names c.remove.new.self
    m.plan with_ended (λ course. refl) (λ course h. omega (arith, h)) ended in
    let P : List PlanCourse → Type 0 =
    λ courses. IsKept kept.plans.items courses after kept.names c.remove.new.self in
    let Q : List Migration → Type 0 = λ migrations. IsKept kept.plans.items
    c.end_in.new.courses.items migrations kept.names c.remove.new.self in
    subst Q (sym c.end_one.ensures) (subst P (sym c.end_in.ensures) both)
