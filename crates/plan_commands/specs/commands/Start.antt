-- The command `start`: each machine of a plan that has no migration there yet gets one, in the
-- plan's order. A plan whose start was cut goes on where it stopped. The reply has the numbers of
-- all migrations of the plan.
use Rattle.std.specs.Prelude.{ℕ, ◌+◌, ◌^◌, ◌==◌, nat_lt, Bool, List, [], ◌++◌, length, map, Option, Some, None, if◌then◌else◌}
use Rattle.std.specs.List.{filter, zip, range_with_len}
use Rattle.std.specs.Option.{option_map_or}
use Rattle.answers.specs.declared.refusal.Refusal.{Refusal}
use Rattle.answers.specs.declared.refusal.Refusal.TheVariants.{UnknownPlan, Started}
use Rattle.fleet.specs.Fleet.{FleetState}
use Rattle.record_codec.specs.declared.record.Record.{Record}
use Rattle.record_codec.specs.declared.record.Record.TheVariants.{MigrationStarted}
use Rattle.reply_json.specs.declared.reply.Reply.{Reply}
use Rattle.reply_json.specs.declared.reply.Reply.TheVariants as reply
use Rattle.ctl_state.specs.Value.{CtlValue, plan_in, course_in, plan_named, waiting}
use Rattle.plan_commands.specs.Machines.{disks_of}

-- the machines of the plan of this number that have no migration in it
abbrev pub waiting_in : (plan : ℕ) → CtlValue → List ℕ
waiting_in plan v = option_map_or
    (λ p. option_map_or (λ course. waiting (p, course)) (course_in v plan) []) (plan_in v plan) []

-- the same, by the name of the plan
abbrev pub waiting_under : (plan : List ℕ) → CtlValue → List ℕ
waiting_under plan v =
    option_map_or (λ number. waiting_in number v) (plan_named v.plans plan) []

-- the new migrations of the plan find numbers of 32 bits
abbrev pub has_numbers_for : (plan : List ℕ) → CtlValue → Bool
has_numbers_for plan v =
    nat_lt (length v.migrations + length (waiting_under plan v)) (2 ^ 32)

-- each machine of the plan has its migration
abbrev pub start_refusal_of : (plan : ℕ) → CtlValue → Option Refusal
start_refusal_of plan v = if length (waiting_in plan v) == 0 then Some Started else None

abbrev pub start_refusal : (plan : List ℕ) → CtlValue → Option Refusal
start_refusal plan v = option_map_or (λ number. start_refusal_of number v)
    (plan_named v.plans plan) (Some UnknownPlan)

-- the numbers of the migrations that begin, which follow those of all before
abbrev pub new_numbers : (plan : ℕ) → CtlValue → List ℕ
new_numbers plan v =
    range_with_len (length v.migrations + 1) (length (waiting_in plan v))

-- a migration of this number begins, of this machine
abbrev pub begun_by : (plan : ℕ) → FleetState → (ℕ × ℕ) → Record
begun_by plan fleet p = MigrationStarted p.0 plan p.1 (disks_of p.1 fleet)

abbrev pub start_records_of : (plan : ℕ) → FleetState → CtlValue → List Record
start_records_of plan fleet v =
    map (begun_by plan fleet) (zip (new_numbers plan v) (waiting_in plan v))

-- the migrations of the plan that there are
abbrev pub numbers_in : (plan : ℕ) → CtlValue → List ℕ
numbers_in plan v = map (λ m. m.number) (filter (λ m. m.plan == plan) v.migrations)

-- where no plan has the name, the command is refused, and neither of these is reached
abbrev pub start_records : (plan : List ℕ) → FleetState → CtlValue → List Record
start_records plan fleet v =
    option_map_or (λ number. start_records_of number fleet v) (plan_named v.plans plan) []

abbrev pub start_reply : (plan : List ℕ) → CtlValue → Reply
start_reply plan v = option_map_or
    (λ number. reply.Started (numbers_in number v ++ new_numbers number v))
    (plan_named v.plans plan) reply.Done
