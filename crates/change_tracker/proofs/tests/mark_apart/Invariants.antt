-- No mark takes an id.
use Rattle.std.proofs.Common.{◌≤◌}
use Rattle.change_tracker.proofs.tests.mark_apart.Given as goal

abbrev pub invariant-loop-index : goal.invariant-loop-index
invariant-loop-index l = l.tracker.free_from ≤ 2
