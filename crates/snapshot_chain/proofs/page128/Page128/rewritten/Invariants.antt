-- The page has what the two have up to here, and nothing from here on.
use Rattle.std.proofs.Common.{◌+◌, ◌*◌}
use Rattle.std.specs.Option.{option_or}
use Rattle.snapshot_chain.specs.Page128.{sector_at, run_at}
use Rattle.snapshot_chain.proofs.Masks.{IsBuilt}
use Rattle.snapshot_chain.proofs.page128.Page128.rewritten.Given as goal

abbrev pub invariant-loop-offset : goal.invariant-loop-offset
invariant-loop-offset l =
    IsBuilt l.page l.offset
    (λ k. option_or (run_at l.first l.sectors (128 * l.block + k)) (sector_at l.self k))
