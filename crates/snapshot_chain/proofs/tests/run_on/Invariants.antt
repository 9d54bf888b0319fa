-- The next id is free.
use Rattle.std.proofs.Common.{◌≤◌}
use Rattle.snapshot_chain.proofs.tests.run_on.Given as goal

abbrev pub invariant-loop-id : goal.invariant-loop-id
invariant-loop-id g l = l.chain.free_from ≤ l.id
