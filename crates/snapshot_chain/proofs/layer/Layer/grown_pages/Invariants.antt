-- The pages of the blocks before this one are made, and no others.
use Rattle.std.proofs.Common.{◌≡◌, ℕ, ◌+◌, ◌<◌, ◌≤◌, length, None}
use Rattle.snapshot_chain.specs.Layer.{slot_of, IsGrownAt, IsWithin}
use Rattle.snapshot_chain.proofs.layer.Layer.grown_pages.Given as goal

abbrev pub invariant-loop-block : goal.invariant-loop-block
invariant-loop-block l = record {
  each : (block offset : ℕ) → offset < 128 → block < l.block
      → IsGrownAt l.self block l.first l.sectors offset (slot_of l.grown block);
  behind : (block : ℕ) → l.block ≤ block → slot_of l.grown block ≡ None;
  within : (c : ℕ) → l.first + length l.sectors ≤ c → IsWithin c l.grown;
}
