-- The disks of a machine: the one at each place has that number and its capacity, and stands for
-- the machine's whole log.
use Rattle.std.specs.Prelude.{◌≡◌, ℕ, List, [], ◌∷◌, ◌++◌, length, slice_get, true, Some}
use Rattle.log_model.specs.declared.entry.Act.{Act}
use Rattle.log_model.specs.declared.entry.Entry.{Entry}
use Rattle.log_model.specs.Legal.{Legal, all_of, capacity_of}
use Rattle.source_disk.specs.SourceDisk.{SourceDiskState, machine_of, number_of, capacity_of as size_of, has_freeze_room, has_snapshot, IsFree}
use Rattle.source_disk.specs.StandsFor.{StandsFor}
use Rattle.source_vm.specs.Machine.{may_have_disks}

pub record IsDisk (machine disk capacity : ℕ) (log : List Entry) (d : SourceDiskState)
    : Type 0 where
  pub of_machine : machine_of d ≡ machine
  pub numbered : number_of d ≡ disk
  pub sized : size_of d ≡ capacity
  pub stands : StandsFor d log

pub record AreDisks (machine : ℕ) (capacities : List ℕ) (log : List Entry)
    (disks : List SourceDiskState) : Type 0 where
  pub count : length disks ≡ length capacities
  pub each : (disk : ℕ) (d : SourceDiskState) → slice_get disks disk ≡ Some d
      → IsDisk machine disk (capacity_of capacities disk) log d

-- what a machine's type keeps: disks that it may have, a legal log, and that they stand for it
pub record IsSound (machine : ℕ) (capacities : List ℕ) (log : List Entry)
    (disks : List SourceDiskState) : Type 0 where
  pub sizes : may_have_disks capacities ≡ true
  pub legal : Legal (all_of capacities) log
  pub stand : AreDisks machine capacities log disks

-- whatever machine and log they were the disks of, they are still
abbrev pub StillDisks : (old new : List SourceDiskState) → Type 0
StillDisks old new = (machine : ℕ) (capacities : List ℕ) (log : List Entry)
    → AreDisks machine capacities log old → AreDisks machine capacities log new

-- and now they are those of the log with this act behind it, whoever acted
abbrev pub DisksTake : Act → (old new : List SourceDiskState) → Type 0
DisksTake act old new = (machine : ℕ) (capacities : List ℕ) (log : List Entry) (who : ℕ)
    → AreDisks machine capacities log old
    → AreDisks machine capacities (log ++ record { who = who; act = act } ∷ []) new

-- the next snapshot may have the id, and takes no memory
pub record CanFreeze (id : ℕ) (d : SourceDiskState) : Type 0 where
  pub free : IsFree id d
  pub room : has_freeze_room d ≡ true

-- the snapshot is live
abbrev pub HasSnap : (id : ℕ) → SourceDiskState → Type 0
HasSnap id d = has_snapshot id d ≡ true
