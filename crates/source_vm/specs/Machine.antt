-- A machine is its number, the capacities of its disks and its log. All else that it is, or that a
-- call of it answers, is what the log says.
use Rattle.std.specs.Prelude.{◌≡◌, ℕ, List, [], ◌∷◌, ◌++◌, length, Bool, ◌&&◌, nat_le, Result, Ok, Err}
use Rattle.std.specs.List.{list_all}
use Rattle.basics.specs.declared.limits.TheConstants.{MAX_DISKS, MAX_DISK_SECTORS}
use Rattle.log_model.specs.declared.entry.Act.{Act}
use Rattle.log_model.specs.Link.{LinkState}
use Rattle.log_model.specs.PlainMachine.{plain_state}
-- the record of a machine
pub use Rattle.log_model.specs.Machine.{MachineState}

-- a disk may have this capacity, in sectors
abbrev pub is_capacity : (capacity : ℕ) → Bool
is_capacity capacity = nat_le 1 capacity && nat_le capacity MAX_DISK_SECTORS

-- a machine may have disks of these capacities
abbrev pub may_have_disks : (capacities : List ℕ) → Bool
may_have_disks capacities =
    nat_le 1 (length capacities) && nat_le (length capacities) MAX_DISKS
    && list_all is_capacity capacities

-- one that is on, to which nothing happened yet
abbrev pub fresh : (number : ℕ) (capacities : List ℕ) → MachineState
fresh number capacities = record { number = number; capacities = capacities; log = [] }

-- the machine with one act more, under the number `who`
abbrev pub with_act : (who : ℕ) → Act → MachineState → MachineState
with_act who act m = record m { log = m.log ++ record { who = who; act = act } ∷ [] }

-- a call that is accepted adds the one entry, and a refused one changes nothing
abbrev pub Adds : {T E : Type 0} → Result T E → (who : ℕ) → Act → (old new : MachineState)
    → Type 0
Adds (Ok answer) who act old new = new ≡ with_act who act old
Adds (Err refusal) who act old new = new ≡ old

-- the machine as the caller with this number reaches it, where nobody else does
abbrev pub link_of : (who : ℕ) → MachineState → LinkState
link_of who m = plain_state m.number m.capacities who m.log
