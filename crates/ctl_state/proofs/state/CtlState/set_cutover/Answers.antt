use Rattle.std.proofs.Common.{List, refl, subst, sym}
use Rattle.ctl_state.specs.declared.plans.PlanCourse.{PlanCourse}
use Rattle.ctl_state.specs.Fold.{with_cutover}
use Rattle.ctl_state.specs.Lookups.{IsKept}
use Rattle.ctl_state.proofs.KeptFacts.{kept_course}
use Rattle.ctl_state.proofs.state.CtlState.set_cutover.Goals as goal

pub invariant_of-self : goal.invariant_of-self
invariant_of-self c =
    let kept = c.self.inside in
    let P : List PlanCourse → Type 0 =
    λ courses. IsKept kept.plans.items courses kept.migrations.items kept.names kept.work in
    subst P (sym c.cut_over.ensures)
    (kept_course kept.plans.items kept.courses.items kept.migrations.items kept.names kept.work
    c.args.plan (with_cutover c.cutover_of.result) (λ course. refl) (λ course h. h)
    c.self.invariant)
