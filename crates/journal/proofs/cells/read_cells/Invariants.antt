use Rattle.std.proofs.Common.{length}
use Rattle.journal.specs.Cells.{AreOpen}
use Rattle.journal.proofs.cells.read_cells.Given as goal

abbrev pub invariant-loop-body : goal.invariant-loop-body
invariant-loop-body l = AreOpen l.cells l.records.items l.rest

abbrev pub decreases-loop-body : goal.decreases-loop-body
decreases-loop-body l = length l.rest
