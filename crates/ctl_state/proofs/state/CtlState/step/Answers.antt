use Rattle.std.proofs.Common.{List}
use Rattle.ctl_state.specs.declared.migration.Migration.{Migration}
use Rattle.ctl_state.specs.Steps.{after_step}
use Rattle.ctl_state.specs.Value.{change_numbered}
use Rattle.ctl_state.specs.Lookups.{IsKept}
use Rattle.ctl_state.proofs.KeptFacts.{kept_step}
use Rattle.ctl_state.proofs.StepFacts.{by_result, step_keeps}
use Rattle.ctl_state.proofs.state.CtlState.step.Goals as goal

pub invariant_of-self : goal.invariant_of-self
invariant_of-self c =
    let kept = c.self.inside in
    let r = c.args.r.now in
    let f : Migration → Migration = λ m. after_step m r in
    let P : List Migration → Type 0 =
    λ migrations. IsKept kept.plans.items kept.courses.items migrations kept.names kept.work in
    by_result c.step_one.result P c.step_one.new.migrations.items
    (change_numbered kept.migrations.items c.args.mig f) kept.migrations.items
    c.step_one.ensures.applied c.step_one.ensures.kept
    (kept_step kept.plans.items kept.courses.items kept.migrations.items kept.names kept.work
    c.args.mig f (λ m. (step_keeps m r c.requires).how)
    (λ m. (step_keeps m r c.requires).machine) (λ m. (step_keeps m r c.requires).number)
    c.self.invariant)
    c.self.invariant
