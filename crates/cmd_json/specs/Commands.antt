-- Each command by its row: its name, and its members in the order in which they are tested.
use Rattle.std.specs.Prelude.{ℕ, ◌-◌, ◌^◌, List, [], ◌∷◌, codes}
use Rattle.basics.specs.declared.limits.TheConstants.{MAX_DISK_SECTORS, MAX_HOST_LIMIT, MAX_INTERVAL, MAX_WRITE_SECTORS}
use Rattle.cmd_json.specs.Kinds.{Kind, a_text, a_name, a_moment, a_flag, a_number, a_multiple_of, a_list, a_move_write}
use Rattle.cmd_json.specs.Members.{Reading, required, optional, defaulted, given, ◌⊛◌, and_then, an_object, the_row}
use Rattle.cmd_json.specs.declared.refusal.CmdRefused.TheVariants.{Field}
use Rattle.cmd_json.specs.declared.command.TheConstants.{MAX_READ_SECTORS, MAX_WORKERS, SECTOR_START_UNIT}
use Rattle.cmd_json.specs.declared.command.GuestLine.{GuestLine}
use Rattle.cmd_json.specs.declared.command.DisturbLine.{DisturbLine}
use Rattle.cmd_json.specs.declared.command.ActLine.{ActLine}
use Rattle.cmd_json.specs.declared.command.ActLine.TheVariants as act
use Rattle.cmd_json.specs.declared.command.Command.{Command}
use Rattle.cmd_json.specs.declared.command.Command.TheVariants.{Move, Host, Vm, Enable, Write, Snapshot, Remove, Query, Read, Power, Reset, Inventory, Plan, Start, Run, Cutover, Cancel, Status, Target, Digest, Restart, Quit}

-- ---- numbers by their size

abbrev pub a_long : Kind ℕ
a_long = a_number 0 (2 ^ 64 - 1)

abbrev pub a_word : Kind ℕ
a_word = a_number 0 (2 ^ 32 - 1)

abbrev pub a_byte : Kind ℕ
a_byte = a_number 0 255

-- ---- the objects of a run's lists

abbrev pub guest : Reading GuestLine
guest = given (λ vm seed count. record { vm = vm; seed = seed; count = count })
    ⊛ required (codes "vm") a_name
    ⊛ required (codes "seed") a_long
    ⊛ required (codes "count") a_long

-- each act by its name, with the members that it has besides
abbrev pub acts : List (List ℕ × Reading ActLine)
acts =
    (codes "reset", given act.Reset ⊛ required (codes "disk") a_word)
    ∷ (codes "snapshot", given act.Snapshot)
    ∷ (codes "on", given act.On)
    ∷ (codes "off", given act.Off)
    ∷ (codes "cancel", given act.Cancel)
    ∷ []

-- an act that isn't one of these is a member that is wrong
unfoldable pub act_named : (name : List ℕ) → Reading ActLine
act_named = the_row (Field (codes "act")) acts

abbrev pub disturbance : Reading DisturbLine
disturbance = given (λ vm act. record { vm = vm; act = act })
    ⊛ required (codes "vm") a_name
    ⊛ and_then act_named (required (codes "act") a_text)

-- ---- the table

abbrev pub Row : Type 0
Row = List ℕ × Reading Command

abbrev pub commands : List Row
commands = (
  codes "move",
  given Move
      ⊛ required (codes "name") a_name
      ⊛ required (codes "sectors") (a_number 1 MAX_DISK_SECTORS)
      ⊛ required (codes "writes") (a_list a_move_write),
)
    ∷ (
      codes "host",
      given Host
          ⊛ required (codes "name") a_name
          ⊛ optional (codes "limit") (a_number 1 MAX_HOST_LIMIT),
    )
    ∷ (
      codes "vm",
      given Vm
          ⊛ required (codes "name") a_name
          ⊛ required (codes "host") a_name
          ⊛ required (codes "disks") (a_list a_long),
    )
    ∷ (
      codes "enable",
      given Enable
          ⊛ required (codes "vm") a_name,
    )
    ∷ (
      codes "write",
      given Write
          ⊛ required (codes "vm") a_name
          ⊛ required (codes "disk") a_word
          ⊛ required (codes "first") a_long
          ⊛ required (codes "count") (a_number 1 MAX_WRITE_SECTORS)
          ⊛ required (codes "fill") a_byte,
    )
    ∷ (
      codes "snapshot",
      given Snapshot
          ⊛ required (codes "vm") a_name,
    )
    ∷ (
      codes "remove",
      given Remove
          ⊛ required (codes "vm") a_name
          ⊛ required (codes "snapshot") a_word,
    )
    ∷ (
      codes "query",
      given Query
          ⊛ required (codes "vm") a_name
          ⊛ required (codes "snapshot") a_word
          ⊛ required (codes "disk") a_word
          ⊛ required (codes "since") a_text
          ⊛ required (codes "start") (a_multiple_of SECTOR_START_UNIT),
    )
    ∷ (
      codes "read",
      given Read
          ⊛ required (codes "vm") a_name
          ⊛ required (codes "disk") a_word
          ⊛ required (codes "first") a_long
          ⊛ required (codes "count") (a_number 1 MAX_READ_SECTORS)
          ⊛ optional (codes "snapshot") a_word,
    )
    ∷ (
      codes "power",
      given Power
          ⊛ required (codes "vm") a_name
          ⊛ required (codes "on") a_flag,
    )
    ∷ (
      codes "reset",
      given Reset
          ⊛ required (codes "vm") a_name
          ⊛ required (codes "disk") a_word,
    )
    ∷ (codes "inventory", given Inventory)
    ∷ (
      codes "plan",
      given Plan
          ⊛ required (codes "name") a_name
          ⊛ required (codes "vms") (a_list a_name)
          ⊛ optional (codes "interval") (a_number 1 MAX_INTERVAL),
    )
    ∷ (
      codes "start",
      given Start
          ⊛ required (codes "plan") a_name,
    )
    ∷ (
      codes "run",
      given Run
          ⊛ required (codes "at") a_moment
          ⊛ required (codes "workers") (a_number 0 MAX_WORKERS)
          ⊛ defaulted [] (codes "guests") (a_list (an_object guest))
          ⊛ defaulted [] (codes "disturb") (a_list (an_object disturbance)),
    )
    ∷ (
      codes "cutover",
      given Cutover
          ⊛ required (codes "plan") a_name
          ⊛ optional (codes "at") a_moment,
    )
    ∷ (
      codes "cancel",
      given Cancel
          ⊛ required (codes "vm") a_name,
    )
    ∷ (codes "status", given Status)
    ∷ (
      codes "target",
      given Target
          ⊛ required (codes "volume") a_text
          ⊛ required (codes "first") a_long
          ⊛ required (codes "count") (a_number 1 MAX_READ_SECTORS),
    )
    ∷ (
      codes "digest",
      given Digest
          ⊛ required (codes "volume") a_text,
    )
    ∷ (codes "restart", given Restart)
    ∷ (codes "quit", given Quit)
    ∷ []
