use Rattle.std.proofs.Common.{◌≤◌}
use Rattle.std.proofs.lemmas.List.Elements.{All-from_recursion}
use Rattle.sector_model.specs.Run.{end_of, runs_of}
use Rattle.sector_model.proofs.Spacing.{runs_of-spaced}
use Rattle.sector_model.proofs.Exact.{in_runs_of}
use Rattle.sector_model.proofs.laws.runs_are_exact.Goals as goal

pub returns-clause-spaced : goal.returns-clause-spaced
returns-clause-spaced c = λ test n fits. (runs_of-spaced test n fits).spaced

pub returns-clause-members : goal.returns-clause-members
returns-clause-members c = in_runs_of

pub returns-clause-within : goal.returns-clause-within
returns-clause-within c =
    λ test n fits. All-from_recursion (λ r. end_of r ≤ n) (runs_of test n)
    (runs_of-spaced test n fits).ends
