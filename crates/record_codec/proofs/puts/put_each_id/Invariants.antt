use Rattle.std.proofs.Common.{◌≡◌, ◌+◌, ◌*◌, ◌≤◌, ◌++◌, take, vec_len}
use Rattle.std.specs.List.{All}
use Rattle.std.specs.Vec.{vec_capacity}
use Rattle.change_id.specs.ChangeId.{IdHasRange}
use Rattle.record_codec.specs.Record.{all_id_bytes}
use Rattle.record_codec.proofs.puts.put_each_id.Given as goal

abbrev pub invariant-loop-id : goal.invariant-loop-id
invariant-loop-id l = (l.out.items ≡ l.fn.out.items ++ all_id_bytes (take l.id-index l.ids))
    × (vec_len l.out ≡ vec_len l.fn.out + 24 * l.id-index)
    × (vec_capacity l.fn.out ≤ vec_capacity l.out)
    × All IdHasRange (take l.id-index l.ids)
