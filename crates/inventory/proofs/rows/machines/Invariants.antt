use Rattle.std.proofs.Common.{◌≡◌, ◌-◌, ◌≤◌, length, take}
use Rattle.inventory.specs.Rows.{vm_rows}
use Rattle.inventory.proofs.rows.machines.Given as goal

abbrev pub invariant-loop-alloc : goal.invariant-loop-alloc
invariant-loop-alloc l = record {
  rows : l.rows.items ≡ take l.place (vm_rows l.fleet);
  within : l.place ≤ length l.fleet.vms;
}

abbrev pub decreases-loop-alloc : goal.decreases-loop-alloc
decreases-loop-alloc l = length l.fleet.vms - l.place
