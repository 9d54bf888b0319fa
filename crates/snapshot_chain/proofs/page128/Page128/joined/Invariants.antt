-- The page has what the two have up to here, and nothing from here on.
use Rattle.std.specs.Option.{option_or}
use Rattle.snapshot_chain.specs.Page128.{sector_at}
use Rattle.snapshot_chain.proofs.Masks.{IsBuilt}
use Rattle.snapshot_chain.proofs.page128.Page128.joined.Given as goal

abbrev pub invariant-loop-offset : goal.invariant-loop-offset
invariant-loop-offset l =
    IsBuilt l.page l.offset (λ k. option_or (sector_at l.upper k) (sector_at l.lower k))
