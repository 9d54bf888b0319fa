-- The disks so far.
use Rattle.std.proofs.Common.{◌≤◌}
use Rattle.log_facts.specs.Disks.{AreDisks}
use Rattle.log_facts.proofs.disks.disks_of.Given as goal

abbrev pub invariant-loop-disk : goal.invariant-loop-disk
invariant-loop-disk l = record {
  are : AreDisks l.disk l.log l.facts.items;
  within : l.disk ≤ l.disks;
}
