-- A machine is its number, the capacities of its disks and its log: what a migration, a fleet and
-- the machine itself say of one is said of this record.
use Rattle.std.specs.Prelude.{ℕ, List}
use Rattle.log_model.specs.declared.entry.Entry.{Entry}

pub record MachineState : Type 0 where
  pub number : ℕ
  pub capacities : List ℕ
  pub log : List Entry
