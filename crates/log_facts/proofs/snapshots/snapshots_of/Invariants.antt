-- What the entries so far say of each number.
use Rattle.std.proofs.Common.{◌≡◌, ℕ, ◌+◌, ◌<◌, Some, take, length}
use Rattle.std.specs.List.{slice_get}
use Rattle.log_model.specs.Legal.{taken}
use Rattle.log_facts.specs.Snapshots.{snapshot_fact}
use Rattle.log_facts.proofs.snapshots.snapshots_of.Given as goal

abbrev pub invariant-loop-entry : goal.invariant-loop-entry
invariant-loop-entry l = record {
  long : length l.snapshots.items ≡ taken l.log + 1;
  each : (snapshot : ℕ) → snapshot < length l.snapshots.items
      → slice_get l.snapshots.items snapshot
      ≡ Some (snapshot_fact snapshot (take l.entry-index l.log));
}
