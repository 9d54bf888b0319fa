use Rattle.std.proofs.Common.{◌≡◌, ◌≤◌, not, drop}
use Rattle.sector_model.specs.Run.{in_runs, runs_of}
use Rattle.sector_model.proofs.RunsOf.{Left}
use Rattle.sector_model.proofs.run.Runs.complement.Given as goal

-- the gaps below `at`, from where on the runs that are left decide
abbrev pub invariant-loop-run : goal.invariant-loop-run
invariant-loop-run l =
    record {
      gaps : l.gaps.items ≡ runs_of (λ s. not (in_runs l.runs s)) l.at;
      left : Left l.runs (drop l.run-index l.runs) l.at;
      within : l.at ≤ l.capacity;
    }
