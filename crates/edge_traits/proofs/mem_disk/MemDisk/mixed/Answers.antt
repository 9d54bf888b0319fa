use Rattle.std.proofs.Common.{◌≡◌, arith, length}
use Rattle.std.proofs.lemmas.Grind.{common_steps}
use Rattle.edge_traits.specs.MemDisk.{IsMixed, IsConsistent}
use Rattle.edge_traits.proofs.Images.{mixed_possible}
use Rattle.edge_traits.proofs.mem_disk.MemDisk.mixed.Goals as goal

pub returns-clause-possible : goal.returns-clause-possible
returns-clause-possible c =
    let mixed : IsMixed c.args.seed c.args.self.now.contents c.overlay.new.lower.items =
    grind (arith, common_steps, c.overlay.ensures.bytes) in
    let consistent : IsConsistent c.args.self.now.contents =
    grind (arith, common_steps, c.self.invariant.consistent) in
    mixed_possible c.args.seed c.args.self.now.contents _ consistent mixed
