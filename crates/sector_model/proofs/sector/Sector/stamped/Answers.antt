use Rattle.std.proofs.Common.{arith}
use Rattle.sector_model.proofs.Stamps.{stamped_by_bytes}
use Rattle.sector_model.proofs.sector.Sector.stamped.Goals as goal

pub returns : goal.returns
returns c =
    stamped_by_bytes c.loop-i.sector c.args.stamp c.loop-i.invariant.long
    (λ k h. rw (← c.to_be_bytes-bytes.ensures) (c.loop-i.invariant.so_far k (omega arith)))
