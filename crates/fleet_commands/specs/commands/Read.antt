-- The command `read`: it shows sectors of a disk, at a snapshot or as it is now.
use Rattle.std.specs.Prelude.{◌≡◌, ℕ, ◌+◌, List, length, map, slice_range, Option, Some, None, option_and_then, Result, OnOk}
use Rattle.basics.specs.Refusal.{IsRefusedBy}
use Rattle.sector_model.specs.declared.sector.Sector.{Sector}
use Rattle.reply_json.specs.declared.reply.Reply.{Reply}
use Rattle.reply_json.specs.declared.reply.Reply.TheVariants.{Sectors}
use Rattle.log_model.specs.Entry.{contents}
use Rattle.log_model.specs.Frozen.{frozen}
use Rattle.log_model.specs.Legal.{capacity_of}
use Rattle.log_model.specs.Refusals.{read_refusal as refusal_of_read}
use Rattle.log_model.specs.declared.refusals.LinkRefused.{LinkRefused}
use Rattle.source_vm.specs.Machine.{MachineState}
use Rattle.source_vm.specs.Refusals.{read_now_refusal}
use Rattle.fleet.specs.Fleet.{FleetState}
use Rattle.fleet_commands.specs.Machines.{machine_named, at_machine, reply_at}
use Rattle.fleet_commands.specs.Refusals.{link_told}
use Rattle.answers.specs.declared.refusal.Refusal.{Refusal}

abbrev pub refusal_at : (snapshot : Option ℕ) → (disk first count : ℕ) → MachineState
    → Option LinkRefused
refusal_at None disk first count m = read_now_refusal m.capacities disk first count
refusal_at (Some snapshot) disk first count m =
    refusal_of_read m.capacities snapshot disk first count m.log

-- what a disk held at a snapshot, or holds now
abbrev pub disk_at : (snapshot : Option ℕ) → (disk : ℕ) → MachineState → List Sector
disk_at None disk m = contents (capacity_of m.capacities disk) disk m.log
disk_at (Some snapshot) disk m = frozen (capacity_of m.capacities disk) disk snapshot m.log

abbrev pub sectors_reply : List Sector → Reply
sectors_reply sectors = Sectors (map (λ sector. sector.0) sectors)

abbrev pub read_refusal : (vm : List ℕ) (disk first count : ℕ) (snapshot : Option ℕ)
    → FleetState → Option Refusal
read_refusal vm disk first count snapshot fleet = at_machine vm
    (λ m. option_and_then link_told (refusal_at snapshot disk first count m)) fleet

abbrev pub read_reply : (vm : List ℕ) (disk first count : ℕ) (snapshot : Option ℕ)
    → FleetState → Reply
read_reply vm disk first count snapshot fleet = reply_at vm
    (λ m. sectors_reply (slice_range (disk_at snapshot disk m) first (first + count))) fleet

-- what reading into sectors answers, as many as there are: nothing without the machine, and what
-- the machine says
abbrev pub Reads : (vm : List ℕ) (disk first : ℕ) (snapshot : Option ℕ) → FleetState
    → Option (Result (Unit {0}) LinkRefused) → (old new : List Sector) → Type 0
Reads vm disk first snapshot fleet None old new = machine_named vm fleet ≡ None
Reads vm disk first snapshot fleet (Some result) old new = (m : MachineState)
    × (machine_named vm fleet ≡ Some m)
    × IsRefusedBy (refusal_at snapshot disk first (length old) m) result
    × OnOk result (new ≡ slice_range (disk_at snapshot disk m) first (first + length old))
