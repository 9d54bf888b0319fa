-- A block of 64 bits is spread.
use Rattle.std.proofs.Common.{sym, arith}
use Rattle.snapshot_chain.proofs.Keys.{of_block}
use Rattle.snapshot_chain.proofs.layer.key_of.Goals as goal

pub returns : goal.returns
returns c = sym (of_block c.args.block (omega (arith, c.ranges.block.fits)))
