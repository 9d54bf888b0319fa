-- Where nothing is missing so far, each sector of the run so far has one here.
use Rattle.std.proofs.Common.{◌≡◌, ℕ, ◌+◌, ◌*◌, ◌<◌, ◌≤◌, IsSome}
use Rattle.snapshot_chain.specs.Page128.{run_at, sector_at}
use Rattle.snapshot_chain.proofs.page128.Page128.missing.Given as goal

abbrev pub invariant-loop-offset : goal.invariant-loop-offset
invariant-loop-offset l = record {
  few : l.missing ≤ l.offset;
  none : l.missing ≡ 0 → (k : ℕ) → k < l.offset
      → IsSome (run_at l.first l.sectors (128 * l.block + k)) → IsSome (sector_at l.self k);
}
