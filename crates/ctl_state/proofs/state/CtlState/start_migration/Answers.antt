use Rattle.std.proofs.Common.{◌≡◌, ℕ, true, List, [], ◌∷◌, ◌++◌, refl, ap, subst, sym, ◌∙◌}
use Rattle.std.proofs.lemmas.Bool.{OnTrue_at}
use Rattle.ctl_state.specs.declared.migration.Migration.{Migration}
use Rattle.ctl_state.specs.declared.plans.PlanCourse.{PlanCourse}
use Rattle.ctl_state.specs.Migration.{is_live}
use Rattle.ctl_state.specs.Steps.{new_migration}
use Rattle.ctl_state.specs.Fold.{with_started}
use Rattle.ctl_state.specs.Value.{CtlValue, change_numbered}
use Rattle.ctl_state.specs.MayStand.{may_start}
use Rattle.ctl_state.specs.Lookups.{IsKept, HasRoom}
use Rattle.ctl_state.proofs.KeptFacts.{kept_start}
use Rattle.ctl_state.proofs.NextFacts.{next_of_start}
use Rattle.ctl_state.proofs.state.CtlState.start_migration.Goals as goal

pub start_one-requires-clause-started : goal.start_one-requires-clause-started
start_one-requires-clause-started c =
    let P : CtlValue → Type 0 = λ v. HasRoom v.courses c.args.plan in
    subst P (sym c.self.view_is) (OnTrue_at {b = c.may_start.result} {P = P c.args.self.now}
    c.if-not-may_start.false c.may_start.ensures.room)

pub start_one-requires-clause-live : goal.start_one-requires-clause-live
start_one-requires-clause-live c = c.self.invariant.courses_hold

pub invariant_of-self-2 : goal.invariant_of-self-2
invariant_of-self-2 c =
    let kept = c.self.inside in
    let mig = c.args.mig in
    let plan = c.args.plan in
    let vm = c.args.vm in
    let v : CtlValue = record {
      plans = kept.plans.items;
      courses = kept.courses.items;
      migrations = kept.migrations.items;
    } in
    let M : CtlValue → Type 0 = λ now. may_start now mig plan vm c.args.disks ≡ true in
    let may = subst M (sym c.self.view_is) (sym c.may_start.ensures.value
    ∙ c.if-not-may_start.false) in
    let next = next_of_start v mig plan vm c.args.disks may in
    let m = new_migration mig plan vm c.args.disks in
    let now = kept_start kept.plans.items kept.courses.items kept.migrations.items kept.names
    kept.work c.begin_work.new.work plan vm mig next.known next.course m next.plan_is
    next.course_is next.next_is refl refl refl c.begin_work.ensures c.self.invariant in
    let added = c.in_ok-push.ensures.items
    ∙ ap (λ (new : Migration). kept.migrations.items ++ new ∷ []) c.in_ok-migration.ensures in
    let P : List Migration → Type 0 = λ migrations. IsKept kept.plans.items
    (change_numbered kept.courses.items plan with_started) migrations kept.names
    c.begin_work.new.work in
    let Q : List PlanCourse → Type 0 = λ courses. IsKept kept.plans.items courses
    c.push.new.self.items kept.names c.begin_work.new.work in
    subst Q (sym c.start_one.ensures) (subst P (sym added) now)
