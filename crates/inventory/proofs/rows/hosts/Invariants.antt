use Rattle.std.proofs.Common.{◌≡◌, ◌-◌, ◌≤◌, length, take}
use Rattle.inventory.specs.Rows.{host_rows}
use Rattle.inventory.proofs.rows.hosts.Given as goal

abbrev pub invariant-loop-name : goal.invariant-loop-name
invariant-loop-name l = record {
  rows : l.rows.items ≡ take l.place (host_rows l.fleet);
  within : l.place ≤ length l.fleet.hosts;
}

abbrev pub decreases-loop-name : goal.decreases-loop-name
decreases-loop-name l = length l.fleet.hosts - l.place
