use Rattle.std.proofs.Common.{length}
use Rattle.journal.proofs.cells.count_cells.Given as goal

abbrev pub decreases-loop-body : goal.decreases-loop-body
decreases-loop-body l = length l.rest
