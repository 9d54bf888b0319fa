use Rattle.std.proofs.Common.{◌≡◌, ℕ, ◌<◌, ◌≤◌, Some}
use Rattle.log_model.specs.Legal.{owner_of}
use Rattle.log_model.proofs.folds.least_owned.Given as goal

abbrev pub invariant-loop-snapshot : goal.invariant-loop-snapshot
invariant-loop-snapshot l = (s : ℕ) → l.from ≤ s → s < l.snapshot → owner_of s l.log ≡ Some l.owner
    → ⊥
