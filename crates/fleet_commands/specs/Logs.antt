-- What commands make of the logs of a fleet, each of them found by the name of its machine, which
-- no command changes: one that acts on a machine adds one entry to its log, and no other command
-- and no other log changes.
use Rattle.std.specs.Prelude.{◌≡◌, ℕ, List, [], ◌∷◌, ◌++◌, Bool, true, false, IsSome, option_and_then, if◌then◌else◌}
use Rattle.std.specs.Option.{option_map_or}
use Rattle.std.specs.Str.{bytes_eq}
use Rattle.cmd_json.specs.declared.command.Command.{Command}
use Rattle.cmd_json.specs.declared.command.Command.TheVariants.{Move, Host, Vm, Enable, Write, Snapshot, Remove, Query, Read, Power, Reset, Inventory, Plan, Start, Run, Cutover, Cancel, Status, Target, Digest, Restart, Quit}
use Rattle.log_model.specs.declared.entry.Act.{Act}
use Rattle.log_model.specs.declared.entry.Act.TheVariants as acts
use Rattle.log_model.specs.declared.entry.Entry.{Entry}
use Rattle.fleet.specs.Fleet.{FleetState, vm_number, vm_of, with_host, with_vm_under}
use Rattle.fleet.specs.Sound.{AllAreIn}
use Rattle.log_model.specs.Entry.{entry_of}
use Rattle.fleet_commands.specs.Machines.{machine_named, after_act}
use Rattle.fleet_commands.specs.commands.Snapshot.{snap_act}
use Rattle.fleet_commands.specs.commands.Write.{fill_act}

-- the log of the machine of this name, and no entries where there is none
abbrev pub log_named : (name : List ℕ) → FleetState → List Entry
log_named name fleet = option_map_or (λ vm. vm.log)
    (option_and_then (λ number. vm_of number fleet) (vm_number name fleet)) []

-- the one entry, where the command names this machine
abbrev pub entry_at : (vm name : List ℕ) → Act → List Entry
entry_at vm name act = if bytes_eq vm name then entry_of act ∷ [] else []

abbrev pub power_act : Bool → Act
power_act true = acts.On
power_act false = acts.Off

-- what a command that isn't refused adds to the log of the machine of this name, as it is before
abbrev pub entries_of : Command → (name : List ℕ) → (log : List Entry) → List Entry
entries_of (Move volume sectors writes) name log = []
entries_of (Host host limit) name log = []
entries_of (Vm vm host disks) name log = []
entries_of (Enable vm) name log = entry_at vm name acts.Enable
entries_of (Write vm disk first count fill) name log =
    entry_at vm name (fill_act disk first count fill)
entries_of (Snapshot vm) name log = entry_at vm name (snap_act log)
entries_of (Remove vm snapshot) name log = entry_at vm name (acts.Remove snapshot)
entries_of (Query vm snapshot disk since start) name log = []
entries_of (Read vm disk first count snapshot) name log = []
entries_of (Power vm on) name log = entry_at vm name (power_act on)
entries_of (Reset vm disk) name log = entry_at vm name (acts.Reset disk)
entries_of Inventory name log = []
entries_of (Plan plan vms interval) name log = []
entries_of (Start plan) name log = []
entries_of (Run at workers guests disturb) name log = []
entries_of (Cutover plan at) name log = []
entries_of (Cancel vm) name log = []
entries_of Status name log = []
entries_of (Target volume first count) name log = []
entries_of (Digest volume) name log = []
entries_of Restart name log = []
entries_of Quit name log = []

-- ---- laws

-- an act on a machine adds its entry to the log of that machine, and changes no other log
abbrev pub ActsAddThere : Type 0
ActsAddThere = (vm name : List ℕ) (act : List Entry → Act) (fleet : FleetState)
    → IsSome (machine_named vm fleet)
    → log_named name (after_act vm act fleet)
    ≡ log_named name fleet ++ entry_at vm name (act (log_named name fleet))

-- a host or a machine that is added leaves the logs
abbrev pub HostsAddNone : Type 0
HostsAddNone = (host name : List ℕ) (limit : ℕ) (fleet : FleetState)
    → log_named name (with_host host limit fleet) ≡ log_named name fleet

abbrev pub VmsAddNone : Type 0
VmsAddNone = (vm host disks name : List ℕ) (fleet : FleetState)
    → log_named name (with_vm_under vm host disks fleet) ≡ log_named name fleet

-- machines stay in
abbrev pub ActsKeepIn : Type 0
ActsKeepIn = (vm : List ℕ) (act : List Entry → Act) (fleet : FleetState) → AllAreIn fleet
    → AllAreIn (after_act vm act fleet)
