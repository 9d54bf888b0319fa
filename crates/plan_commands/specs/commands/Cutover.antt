-- The command `cutover`: it sets or replaces the moment from which on a plan's migrations are cut
-- over, or asks for as soon as possible.
use Rattle.std.specs.Prelude.{ℕ, ◌==◌, List, [], ◌∷◌, Option, Some, None, is_some, if◌then◌else◌}
use Rattle.std.specs.Option.{option_map_or}
use Rattle.answers.specs.declared.refusal.Refusal.{Refusal}
use Rattle.answers.specs.declared.refusal.Refusal.TheVariants.{UnknownPlan, NotStarted, Ended}
use Rattle.plan_model.specs.declared.moment.Moment.{Moment}
use Rattle.record_codec.specs.declared.record.Record.{Record}
use Rattle.record_codec.specs.declared.record.Record.TheVariants.{CutoverSet}
use Rattle.reply_json.specs.declared.reply.Reply.{Reply}
use Rattle.reply_json.specs.declared.reply.Reply.TheVariants.{Done}
use Rattle.ctl_state.specs.Value.{CtlValue, course_in, plan_named}
use Rattle.ctl_state.specs.declared.plans.PlanCourse.{PlanCourse}

-- no machine of the plan has its migration; or each migration of the plan has ended. A plan that is
-- started in part, whose migrations so far have ended, has ended too
abbrev pub course_refusal : PlanCourse → Option Refusal
course_refusal course = if course.started == 0 then Some NotStarted
    else if course.live == 0 then Some Ended else None

abbrev pub cutover_refusal_of : (plan : ℕ) → CtlValue → Option Refusal
cutover_refusal_of plan v =
    option_map_or course_refusal (course_in v plan) (Some UnknownPlan)

abbrev pub cutover_refusal : (plan : List ℕ) → CtlValue → Option Refusal
cutover_refusal plan v = option_map_or (λ number. cutover_refusal_of number v)
    (plan_named v.plans plan) (Some UnknownPlan)

-- a moment that isn't named is kept as 0
abbrev pub seconds_of : Option Moment → ℕ
seconds_of at = option_map_or (λ moment. moment.0) at 0

abbrev pub cutover_records : (plan : List ℕ) → (at : Option Moment) → CtlValue → List Record
cutover_records plan at v = option_map_or
    (λ number. CutoverSet number (is_some at) (seconds_of at) ∷ []) (plan_named v.plans plan) []

abbrev pub cutover_reply : Reply
cutover_reply = Done
