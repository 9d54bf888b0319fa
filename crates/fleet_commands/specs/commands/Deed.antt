-- The commands that add one entry to the log of a machine and have nothing to tell: `enable`,
-- `remove`, `power` and `reset`.
use Rattle.std.specs.Prelude.{ℕ, List, Option, option_and_then}
use Rattle.reply_json.specs.declared.reply.Reply.{Reply}
use Rattle.reply_json.specs.declared.reply.Reply.TheVariants.{Done}
use Rattle.log_model.specs.Refusals.{remove_refusal, power_on_refusal, power_off_refusal, reset_refusal, enable_refusal}
use Rattle.log_model.specs.declared.entry.Act.{Act}
use Rattle.log_model.specs.declared.entry.Act.TheVariants as acts
use Rattle.log_model.specs.declared.entry.Owner.TheVariants.{Operator}
use Rattle.log_model.specs.declared.entry.TheConstants.{MIGRATION_CALLER}
use Rattle.log_model.specs.declared.entry.Entry.{Entry}
use Rattle.log_model.specs.declared.refusals.LinkRefused.{LinkRefused}
use Rattle.fleet.specs.Fleet.{FleetState}
use Rattle.fleet_commands.specs.Machines.{at_machine, after_act}
use Rattle.fleet_commands.specs.Refusals.{link_told}
use Rattle.fleet_commands.specs.declared.deed.Deed.{Deed}
use Rattle.fleet_commands.specs.declared.deed.Deed.TheVariants.{Enable, Remove, On, Off, Reset}
use Rattle.answers.specs.declared.refusal.Refusal.{Refusal}

abbrev pub act_of : Deed → Act
act_of Enable = acts.Enable
act_of (Remove snapshot) = acts.Remove snapshot
act_of On = acts.On
act_of Off = acts.Off
act_of (Reset disk) = acts.Reset disk

-- why a machine with this log refuses it; an operator removes what operators took
abbrev pub refusal_by : Deed → (capacities : List ℕ) → List Entry → Option LinkRefused
refusal_by Enable capacities log = enable_refusal log
refusal_by (Remove snapshot) capacities log =
    remove_refusal MIGRATION_CALLER Operator snapshot log
refusal_by On capacities log = power_on_refusal log
refusal_by Off capacities log = power_off_refusal log
refusal_by (Reset disk) capacities log = reset_refusal capacities disk log

abbrev pub deed_refusal : (vm : List ℕ) → Deed → FleetState → Option Refusal
deed_refusal vm deed fleet = at_machine vm
    (λ m. option_and_then link_told (refusal_by deed m.capacities m.log)) fleet

abbrev pub deed_reply : Reply
deed_reply = Done

abbrev pub after_deed : (vm : List ℕ) → Deed → FleetState → FleetState
after_deed vm deed fleet = after_act vm (λ log. act_of deed) fleet
