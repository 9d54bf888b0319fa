use Rattle.std.proofs.Common.{◌≡◌, ◌+◌, length, drop}
use Rattle.std.specs.List.{sum_by}
use Rattle.sector_model.proofs.LooseRuns.{fill_runs}
use Rattle.sector_model.proofs.sector.SectorList.take_found.Given as goal

-- the runs that are left fill what is left of the filling in
abbrev pub invariant-loop-run : goal.invariant-loop-run
invariant-loop-run l =
    record {
      told : fill_runs (drop l.run-index l.run-items) l.self (drop l.at l.filling)
          ≡ fill_runs l.run-items l.initial.self l.filling;
      left : l.at + sum_by (λ run. run.count) (drop l.run-index l.run-items) ≡ length l.filling;
      long : length l.self ≡ length l.initial.self;
    }
