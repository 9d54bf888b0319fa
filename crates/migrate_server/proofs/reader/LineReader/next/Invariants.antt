use Rattle.std.proofs.Common.{◌+◌, ◌-◌, cond}
use Rattle.migrate_server.specs.declared.reader.TheConstants.{INPUT_LIMIT}
use Rattle.migrate_server.proofs.PartLines.{Partly}
use Rattle.migrate_server.proofs.reader.LineReader.next.Given as goal

abbrev pub invariant-loop-at : goal.invariant-loop-at
invariant-loop-at g l =
    Partly (g.S.Source.state l.fn.source) (g.S.Source.state l.source) l.fn.self l.self l.line

abbrev pub decreases-loop-at : goal.decreases-loop-at
decreases-loop-at g l = (INPUT_LIMIT + 1 - l.self.total) + cond l.self.ended 0 1
