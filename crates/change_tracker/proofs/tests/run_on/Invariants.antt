-- The next id is free, and there were no more resets than draws.
use Rattle.std.proofs.Common.{◌≤◌}
use Rattle.change_tracker.proofs.tests.run_on.Given as goal

abbrev pub invariant-loop-id : goal.invariant-loop-id
invariant-loop-id g l = record {
  free : l.tracker.free_from ≤ l.id;
  few : l.tracker.epoch ≤ l.id;
}
