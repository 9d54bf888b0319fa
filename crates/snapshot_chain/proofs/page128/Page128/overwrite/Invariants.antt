-- The offsets before this one are written over, and the others are as they were.
use Rattle.std.proofs.Common.{◌≡◌, ℕ, ◌+◌, ◌*◌, ◌<◌, ◌≤◌}
use Rattle.std.specs.Option.{option_map, unwrap_or}
use Rattle.snapshot_chain.specs.Page128.{run_at, sector_at}
use Rattle.snapshot_chain.proofs.page128.Page128.overwrite.Given as goal

abbrev pub invariant-loop-offset : goal.invariant-loop-offset
invariant-loop-offset l = record {
  done : (k : ℕ) → k < l.offset
      → sector_at l.self k ≡ option_map (unwrap_or (run_at l.first l.sectors (128 * l.block + k)))
      (sector_at l.initial.self k);
  behind : (k : ℕ) → l.offset ≤ k → k < 128 → sector_at l.self k ≡ sector_at l.initial.self k;
}
