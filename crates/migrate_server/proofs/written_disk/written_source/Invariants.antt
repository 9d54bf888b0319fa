use Rattle.std.proofs.Common.{◌≤◌, length, take}
use Rattle.std.specs.Prelude.{All}
use Rattle.migrate_server.specs.WrittenDisk.{IsWritten}
use Rattle.migrate_server.proofs.written_disk.written_source.Given as goal

abbrev pub invariant-loop-write : goal.invariant-loop-write
invariant-loop-write l = record {
  room : All (λ w. w.count ≤ length l.buffer.items) l.writes;
  written : IsWritten l.capacity (take l.write-index l.writes) l.disk;
}
