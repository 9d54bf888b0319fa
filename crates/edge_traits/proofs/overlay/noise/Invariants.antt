use Rattle.std.proofs.Common.{◌≡◌, ◌-◌, ◌++◌}
use Rattle.edge_traits.specs.MemDisk.{noise}
use Rattle.edge_traits.proofs.overlay.noise.Given as goal

abbrev pub invariant-loop : goal.invariant-loop
invariant-loop l = l.bytes.items ++ noise (l.count - l.counter) l.x ≡ noise l.count l.seed
