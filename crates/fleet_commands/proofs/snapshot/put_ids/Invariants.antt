use Rattle.std.proofs.Common.{◌≡◌, ◌≤◌, length, map}
use Rattle.std.specs.List.{range_with_len}
use Rattle.std.specs.Vec.{vec_capacity}
use Rattle.log_model.specs.Marks.{id_at}
use Rattle.fleet_commands.proofs.snapshot.put_ids.Given as goal

-- the machine stays as it is, and the identifiers of the disks so far stand in the list, which has
-- room for the others
abbrev pub invariant-loop-disk : goal.invariant-loop-disk
invariant-loop-disk l = record {
  same : l.link ≡ l.fn.link;
  ids : l.ids.items ≡ map (λ disk. id_at l.fn.link.machine disk l.snapshot l.fn.link.seen)
      (range_with_len 0 l.disk);
  count : length l.ids.items ≡ l.disk;
  room : l.disks ≤ vec_capacity l.ids;
}
