-- The command `vm`: it adds a machine on a host, and tells its number.
use Rattle.std.specs.Prelude.{ℕ, ◌+◌, List, length, Option, option_and_then}
use Rattle.reply_json.specs.declared.reply.Reply.{Reply}
use Rattle.reply_json.specs.declared.reply.Reply.TheVariants.{Number}
use Rattle.fleet.specs.Fleet.{FleetState, with_vm_under}
use Rattle.fleet.specs.Refusals.{add_vm_refusal}
use Rattle.fleet_commands.specs.Refusals.{fleet_told}
use Rattle.answers.specs.declared.refusal.Refusal.{Refusal}

abbrev pub vm_refusal : (name host disks : List ℕ) → FleetState → Option Refusal
vm_refusal name host disks fleet =
    option_and_then fleet_told (add_vm_refusal name host disks fleet)

abbrev pub vm_reply : FleetState → Reply
vm_reply fleet = Number (length fleet.vms + 1)

abbrev pub after_vm : (name host disks : List ℕ) → FleetState → FleetState
after_vm name host disks fleet = with_vm_under name host disks fleet
