use Rattle.std.proofs.Common.{◌≡◌, ℕ, ◌<◌, ◌≤◌, not}
use Rattle.log_model.specs.Touched.{is_touched}
use Rattle.log_model.proofs.query.first_sector.Given as goal

abbrev pub invariant-loop-sector : goal.invariant-loop-sector
invariant-loop-sector l = (s : ℕ) → l.from ≤ s → s < l.sector
    → is_touched l.disk s l.log ≡ not l.touched
