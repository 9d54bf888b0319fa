-- The command `host`: it adds a host.
use Rattle.std.specs.Prelude.{ℕ, List, Option, option_and_then, unwrap_or}
use Rattle.reply_json.specs.declared.reply.Reply.{Reply}
use Rattle.reply_json.specs.declared.reply.Reply.TheVariants.{Done}
use Rattle.fleet.specs.Fleet.{FleetState, with_host}
use Rattle.fleet.specs.Refusals.{add_host_refusal}
use Rattle.fleet_commands.specs.Refusals.{fleet_told}
use Rattle.fleet_commands.specs.declared.host.TheConstants.{DEFAULT_HOST_LIMIT}
use Rattle.answers.specs.declared.refusal.Refusal.{Refusal}

abbrev pub host_refusal : (name : List ℕ) → FleetState → Option Refusal
host_refusal name fleet = option_and_then fleet_told (add_host_refusal name fleet)

abbrev pub host_reply : Reply
host_reply = Done

-- a host for which no limit is named has the default one
abbrev pub after_host : (name : List ℕ) (limit : Option ℕ) → FleetState → FleetState
after_host name limit fleet = with_host name (unwrap_or limit DEFAULT_HOST_LIMIT) fleet
