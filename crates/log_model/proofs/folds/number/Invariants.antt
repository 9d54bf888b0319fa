use Rattle.std.proofs.Common.{◌≡◌, ◌≤◌, take, unwrap_or}
use Rattle.log_model.specs.Marks.{counted}
use Rattle.log_model.proofs.folds.number.Given as goal

abbrev pub invariant-loop-entry : goal.invariant-loop-entry
invariant-loop-entry l = record {
  so_far : l.counted ≡ counted l.disk (take l.entry-index l.log);
  small : unwrap_or l.counted 0 ≤ l.entry-index;
}
