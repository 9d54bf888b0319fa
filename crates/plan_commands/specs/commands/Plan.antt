-- The command `plan`: machines whose changes are tracked are put into a plan of a new name.
use Rattle.std.specs.Prelude.{ℕ, List, [], ◌∷◌, Option, Some, None, option_and_then, unwrap_or}
use Rattle.answers.specs.declared.refusal.Refusal.{Refusal}
use Rattle.answers.specs.declared.refusal.Refusal.TheVariants as refusal
use Rattle.fleet.specs.Fleet.{FleetState}
use Rattle.plan_model.specs.Plans.{plan_refusal as model_refusal, next_plan}
use Rattle.plan_model.specs.declared.plan.Plan.{Plan}
use Rattle.plan_model.specs.declared.plan.PlanRefused.{PlanRefused}
use Rattle.plan_model.specs.declared.plan.PlanRefused.TheVariants.{Empty, UnknownVm, InPlan, NoTracking, NameTaken, Doubled, NoMemory}
use Rattle.record_codec.specs.declared.record.Record.{Record}
use Rattle.record_codec.specs.declared.record.Record.TheVariants.{PlanMade}
use Rattle.reply_json.specs.declared.reply.Reply.{Reply}
use Rattle.reply_json.specs.declared.reply.Reply.TheVariants.{Done}
use Rattle.ctl_state.specs.Value.{CtlValue}
use Rattle.plan_commands.specs.Machines.{known_of}
use Rattle.plan_commands.specs.declared.plan.TheConstants.{DEFAULT_INTERVAL}

-- what is told where machines may not be put into a plan. Want of memory is told by nothing
abbrev pub plan_told : PlanRefused → Option Refusal
plan_told Empty = Some refusal.Empty
plan_told (UnknownVm vm) = Some (refusal.UnknownListed vm)
plan_told (InPlan vm) = Some (refusal.InPlan vm)
plan_told (NoTracking vm) = Some (refusal.NoTracking vm)
plan_told NameTaken = Some refusal.NameTaken
plan_told (Doubled vm) = Some (refusal.Doubled vm)
plan_told NoMemory = None

abbrev pub plan_refusal : (name : List ℕ) (vms : List (List ℕ)) → FleetState → CtlValue
    → Option Refusal
plan_refusal name vms fleet v =
    option_and_then plan_told (model_refusal name vms (known_of fleet v) v.plans)

-- a plan is made by one record
abbrev pub made_by : Plan → Record
made_by plan = PlanMade plan.number plan.name plan.interval plan.vms

-- the plan has the number after those before it, and where the line names no interval, the default
abbrev pub plan_records : (name : List ℕ) (vms : List (List ℕ)) (interval : Option ℕ)
    → FleetState → CtlValue → List Record
plan_records name vms interval fleet v = made_by
    (next_plan name vms (known_of fleet v) v.plans (unwrap_or interval DEFAULT_INTERVAL)) ∷ []

abbrev pub plan_reply : Reply
plan_reply = Done
