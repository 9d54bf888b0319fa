-- The blocks before this one are read.
use Rattle.std.proofs.Common.{◌≡◌, ℕ, ◌+◌, ◌-◌, ◌*◌, ◌/◌, ◌<◌, ◌≤◌, length, Some}
use Rattle.std.specs.List.{slice_get}
use Rattle.snapshot_chain.specs.Layers.{sector_found}
use Rattle.snapshot_chain.proofs.reading.read_layers.Given as goal

abbrev pub invariant-loop-block : goal.invariant-loop-block
invariant-loop-block g l = record {
  read : (k : ℕ) → k < length l.buf → l.first + k < 128 * l.block
      → slice_get l.buf k ≡ Some (sector_found l.layers (l.first + k));
  counted : l.fn.steps ≤ l.steps;
  cost : l.steps ≤ l.fn.steps + length l.layers * (l.block - l.first / 128);
}
