use Rattle.std.proofs.Common.{◌≡◌, ◌-◌, ◌^◌, min, take}
use Rattle.std.specs.List.{sum_by}
use Rattle.migrate_server.proofs.commands.moves.written_by.Given as goal

abbrev pub invariant-loop-write : goal.invariant-loop-write
invariant-loop-write l =
    l.written ≡ min (sum_by (λ w. w.count) (take l.write-index l.writes)) (2 ^ 64 - 1)
