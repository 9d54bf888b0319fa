-- The factor's inverse leads a key back.
use Rattle.std.proofs.Common.{arith}
use Rattle.snapshot_chain.proofs.Keys.{key_back}
use Rattle.snapshot_chain.proofs.layer.block_of.Goals as goal

pub returns : goal.returns
returns c = key_back c.args.key (omega (arith, c.ranges.key.fits))
