use Rattle.std.proofs.Common.{◌≡◌, ◌++◌, drop}
use Rattle.sector_model.specs.Joining.{joined, left_over, Fits64}
use Rattle.sector_model.proofs.run.Runs.joined.Given as goal

-- what was put out and what is left are the runs and the one more
abbrev pub invariant-loop-run : goal.invariant-loop-run
invariant-loop-run l =
    record {
      told : l.joined.items ++ left_over l.left (drop l.run-index l.run-items)
          ≡ joined l.fn.more l.run-items;
      fits : Fits64 l.left;
    }
