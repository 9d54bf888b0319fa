-- The blocks before this one are written over, and the others are as they were.
use Rattle.std.proofs.Common.{◌≡◌, ℕ, ◌+◌, ◌*◌, ◌<◌, ◌≤◌}
use Rattle.std.specs.Option.{option_map, unwrap_or}
use Rattle.snapshot_chain.specs.Page128.{run_at}
use Rattle.snapshot_chain.specs.Layer.{slot_of, sector_in, KeepsSlots}
use Rattle.snapshot_chain.proofs.layer.Layer.overwrite.Given as goal

abbrev pub invariant-loop-block : goal.invariant-loop-block
invariant-loop-block l = record {
  done : (block offset : ℕ) → offset < 128 → block < l.block
      → sector_in l.self block offset
      ≡ option_map (unwrap_or (run_at l.first l.sectors (128 * block + offset)))
      (sector_in l.initial.self block offset);
  behind : (block : ℕ) → l.block ≤ block → slot_of l.self block ≡ slot_of l.initial.self block;
  slots : KeepsSlots l.self l.initial.self;
  kept : KeepsSlots l.initial.self l.self;
}
