-- The command `write`: it fills sectors of a disk with a byte, as a guest does.
use Rattle.std.specs.Prelude.{ℕ, List, replicate, Option, option_and_then}
use Rattle.sector_model.specs.Sector.{filled}
use Rattle.reply_json.specs.declared.reply.Reply.{Reply}
use Rattle.reply_json.specs.declared.reply.Reply.TheVariants.{Done}
use Rattle.log_model.specs.Refusals.{write_refusal as refusal_of_write}
use Rattle.log_model.specs.declared.entry.Act.{Act}
use Rattle.log_model.specs.declared.entry.Act.TheVariants.{Write}
use Rattle.fleet.specs.Fleet.{FleetState}
use Rattle.fleet_commands.specs.Machines.{at_machine, after_act}
use Rattle.fleet_commands.specs.Refusals.{write_told}
use Rattle.answers.specs.declared.refusal.Refusal.{Refusal}

abbrev pub fill_act : (disk first count fill : ℕ) → Act
fill_act disk first count fill = Write disk first (replicate count (filled fill))

abbrev pub write_refusal : (vm : List ℕ) (disk first count : ℕ) → FleetState → Option Refusal
write_refusal vm disk first count fleet = at_machine vm
    (λ m. option_and_then write_told (refusal_of_write m.capacities disk first count m.log))
    fleet

abbrev pub write_reply : Reply
write_reply = Done

abbrev pub after_write : (vm : List ℕ) (disk first count fill : ℕ) → FleetState → FleetState
after_write vm disk first count fill fleet =
    after_act vm (λ log. fill_act disk first count fill) fleet
