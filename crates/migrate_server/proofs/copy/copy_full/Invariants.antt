use Rattle.std.proofs.Common.{◌≡◌, ◌-◌, ◌≤◌}
use Rattle.migrate_server.specs.Copy.{copied_to}
use Rattle.migrate_server.specs.WrittenDisk.{frozen_sectors}
use Rattle.migrate_server.proofs.copy.copy_full.Given as goal

abbrev pub invariant-loop-at : goal.invariant-loop-at
invariant-loop-at g l = record {
  state : g.V.Volume.state l.volume
      ≡ copied_to (frozen_sectors l.disk) l.at (g.V.Volume.state l.fn.volume);
  within : l.at ≤ l.capacity;
}

abbrev pub decreases-loop-at : goal.decreases-loop-at
decreases-loop-at g l = l.capacity - l.at
