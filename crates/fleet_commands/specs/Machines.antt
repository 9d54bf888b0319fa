-- The machine that a command names, why the command is refused by it, and what one entry more of
-- its log leaves of the fleet. An entry that a command adds stands under the number of the caller
-- that carries migrations out, whose link the fleet lends.
use Rattle.std.specs.Prelude.{ℕ, List, [], ◌∷◌, ◌++◌, Option, Some, option_and_then}
use Rattle.std.specs.Option.{option_map_or}
use Rattle.reply_json.specs.declared.reply.Reply.{Reply}
use Rattle.reply_json.specs.declared.reply.Reply.TheVariants.{Done}
use Rattle.log_model.specs.Entry.{entry_of}
use Rattle.log_model.specs.declared.entry.Act.{Act}
use Rattle.log_model.specs.declared.entry.Entry.{Entry}
use Rattle.log_model.specs.declared.entry.TheConstants.{MIGRATION_CALLER}
use Rattle.source_vm.specs.Machine.{MachineState}
use Rattle.fleet.specs.Fleet.{FleetState, vm_number, machine_of, with_log}
use Rattle.answers.specs.declared.refusal.Refusal.{Refusal}
use Rattle.answers.specs.declared.refusal.Refusal.TheVariants.{UnknownVm}

-- the machine of this name, unless it is out
abbrev pub machine_named : (vm : List ℕ) → FleetState → Option MachineState
machine_named vm fleet =
    option_and_then (λ number. machine_of number fleet) (vm_number vm fleet)

-- why a command on the machine of this name is refused: there is no such machine, or what the
-- machine says
abbrev pub at_machine : (vm : List ℕ) → (refusal : MachineState → Option Refusal) → FleetState
    → Option Refusal
at_machine vm refusal fleet = option_map_or refusal (machine_named vm fleet) (Some UnknownVm)

-- the reply that the machine of this name gives; a command that names no machine is refused, so
-- that the other one is never given
abbrev pub reply_at : (vm : List ℕ) → (reply : MachineState → Reply) → FleetState → Reply
reply_at vm reply fleet = option_map_or reply (machine_named vm fleet) Done

-- the fleet where the log of the machine of this name has one entry more: what it does may depend
-- on the log before it
abbrev pub after_act : (vm : List ℕ) → (act : List Entry → Act) → FleetState → FleetState
after_act vm act fleet = option_map_or
    (λ m. with_log m.number (m.log ++ entry_of (act m.log) ∷ []) fleet)
    (machine_named vm fleet) fleet
