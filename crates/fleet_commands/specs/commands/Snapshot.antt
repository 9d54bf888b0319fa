-- The command `snapshot`: it takes a snapshot in the operator's name, and tells its number and the
-- change identifier of each disk at it.
use Rattle.std.specs.Prelude.{ℕ, ◌+◌, List, [], ◌∷◌, ◌++◌, length, map, false, Option, option_and_then}
use Rattle.std.specs.List.{range_with_len}
use Rattle.change_id.specs.declared.ChangeId.{ChangeId}
use Rattle.reply_json.specs.declared.reply.Reply.{Reply}
use Rattle.reply_json.specs.declared.reply.Reply.TheVariants.{Snapshot}
use Rattle.log_model.specs.Legal.{taken}
use Rattle.log_model.specs.Marks.{id_at}
use Rattle.log_model.specs.Refusals.{snap_refusal}
use Rattle.log_model.specs.declared.entry.Act.{Act}
use Rattle.log_model.specs.declared.entry.Act.TheVariants.{Snap}
use Rattle.log_model.specs.declared.entry.Owner.TheVariants.{Operator}
use Rattle.log_model.specs.declared.entry.Entry.{Entry}
use Rattle.source_vm.specs.Machine.{MachineState}
use Rattle.fleet.specs.Fleet.{FleetState}
use Rattle.log_model.specs.Entry.{entry_of}
use Rattle.fleet_commands.specs.Machines.{at_machine, reply_at, after_act}
use Rattle.fleet_commands.specs.Refusals.{link_told}
use Rattle.answers.specs.declared.refusal.Refusal.{Refusal}

abbrev pub snap_act : List Entry → Act
snap_act log = Snap (taken log + 1) Operator

-- the identifiers of a machine's disks, in order, at a snapshot
abbrev pub ids_at : (machine : ℕ) (capacities : List ℕ) (snapshot : ℕ) → List Entry
    → List (Option ChangeId)
ids_at machine capacities snapshot log =
    map (λ disk. id_at machine disk snapshot log) (range_with_len 0 (length capacities))

abbrev pub snapshot_refusal : (vm : List ℕ) → FleetState → Option Refusal
snapshot_refusal vm fleet =
    at_machine vm (λ m. option_and_then link_told (snap_refusal false m.log)) fleet

-- what the machine tells of the snapshot that it takes next
abbrev pub next_snapshot : MachineState → Reply
next_snapshot m = Snapshot (taken m.log + 1)
    (ids_at m.number m.capacities (taken m.log + 1) (m.log ++ entry_of (snap_act m.log) ∷ []))

abbrev pub snapshot_reply : (vm : List ℕ) → FleetState → Reply
snapshot_reply vm fleet = reply_at vm next_snapshot fleet

abbrev pub after_snapshot : (vm : List ℕ) → FleetState → FleetState
after_snapshot vm fleet = after_act vm snap_act fleet
