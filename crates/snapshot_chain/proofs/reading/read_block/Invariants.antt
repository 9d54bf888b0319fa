-- What the layers from `left` on have is read; what they don't have is zero.
use Rattle.std.proofs.Common.{◌≡◌, ℕ, ◌+◌, ◌<◌, ◌≤◌, length, get_or, drop, false}
use Rattle.std.specs.List.{slice_get}
use Rattle.snapshot_chain.specs.Layers.{found}
use Rattle.snapshot_chain.specs.Reading.{IsRead}
use Rattle.snapshot_chain.proofs.reading.read_block.Given as goal

abbrev pub invariant-loop-left : goal.invariant-loop-left
invariant-loop-left g l = record {
  bound : l.left ≤ length l.layers;
  read : (k : ℕ) → k < length l.buf
      → IsRead (found (drop l.left l.layers) l.block (l.offset + k)) (get_or l.is_found k false)
      (slice_get l.buf k);
  marks : length l.is_found ≡ length l.buf;
  counted : l.fn.steps ≤ l.steps;
  cost : l.steps + l.left ≤ l.fn.steps + length l.layers;
}

abbrev pub decreases-loop-left : goal.decreases-loop-left
decreases-loop-left g l = l.left
