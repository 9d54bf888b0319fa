use Rattle.std.proofs.Common.{◌≡◌, ℕ, ◌<◌, ◌≤◌, get_or}
use Rattle.cmd_json.specs.declared.command.MoveWrite.{MoveWrite}
use Rattle.migrate_server.proofs.written_disk.longest.Given as goal

abbrev pub invariant-loop-write : goal.invariant-loop-write
invariant-loop-write l = (k : ℕ) (d : MoveWrite) → k < l.write-index
    → (get_or l.writes k d).count ≤ l.most
