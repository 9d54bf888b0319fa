-- What is known of a command that was read, so that nobody has to test it again.
use Rattle.std.specs.Prelude.{◌≡◌, ℕ, ◌≤◌, ◌%◌, ⊤, List, All, IfSome}
use Rattle.basics.specs.Spelled.{IsName}
use Rattle.basics.specs.declared.limits.TheConstants.{MAX_DISK_SECTORS, MAX_HOST_LIMIT, MAX_INTERVAL, MAX_WRITE_SECTORS}
use Rattle.cmd_json.specs.Range.{IsWithin}
use Rattle.cmd_json.specs.declared.command.TheConstants.{MAX_READ_SECTORS, MAX_WORKERS, SECTOR_START_UNIT}
use Rattle.cmd_json.specs.declared.command.Command.{Command}
use Rattle.cmd_json.specs.declared.command.Command.TheVariants.{Move, Host, Vm, Enable, Write, Snapshot, Remove, Query, Read, Power, Reset, Inventory, Plan, Start, Run, Cutover, Cancel, Status, Target, Digest, Restart, Quit}

-- each name is one, and each number lies in its range
abbrev pub IsAskable : Command → Type 0
IsAskable (Move name sectors writes) = IsName name × IsWithin 1 MAX_DISK_SECTORS sectors
    × All (λ w. IsWithin 1 MAX_WRITE_SECTORS w.count) writes
IsAskable (Host name limit) = IsName name × IfSome limit (IsWithin 1 MAX_HOST_LIMIT)
IsAskable (Vm name host disks) = IsName name × IsName host
IsAskable (Enable vm) = IsName vm
IsAskable (Write vm disk first count fill) = IsName vm × IsWithin 1 MAX_WRITE_SECTORS count
IsAskable (Snapshot vm) = IsName vm
IsAskable (Remove vm snapshot) = IsName vm
IsAskable (Query vm snapshot disk since start) = IsName vm × (start % SECTOR_START_UNIT ≡ 0)
IsAskable (Read vm disk first count snapshot) = IsName vm × IsWithin 1 MAX_READ_SECTORS count
IsAskable (Power vm on) = IsName vm
IsAskable (Reset vm disk) = IsName vm
IsAskable Inventory = ⊤
IsAskable (Plan name vms interval) = IsName name × All IsName vms
    × IfSome interval (IsWithin 1 MAX_INTERVAL)
IsAskable (Start plan) = IsName plan
IsAskable (Run at workers guests disturb) = (workers ≤ MAX_WORKERS)
    × All (λ g. IsName g.vm) guests × All (λ d. IsName d.vm) disturb
IsAskable (Cutover plan at) = IsName plan
IsAskable (Cancel vm) = IsName vm
IsAskable Status = ⊤
IsAskable (Target volume first count) = IsWithin 1 MAX_READ_SECTORS count
IsAskable (Digest volume) = ⊤
IsAskable Restart = ⊤
IsAskable Quit = ⊤
