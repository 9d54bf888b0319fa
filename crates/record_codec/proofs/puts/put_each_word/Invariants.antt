use Rattle.std.proofs.Common.{◌≡◌, ◌+◌, ◌*◌, ◌≤◌, ◌++◌, take, vec_len}
use Rattle.std.specs.Vec.{vec_capacity}
use Rattle.record_codec.specs.Record.{all_word_bytes}
use Rattle.record_codec.proofs.puts.put_each_word.Given as goal

abbrev pub invariant-loop-number : goal.invariant-loop-number
invariant-loop-number l =
    (l.out.items ≡ l.fn.out.items ++ all_word_bytes (take l.number-index l.numbers))
    × (vec_len l.out ≡ vec_len l.fn.out + 4 * l.number-index)
    × (vec_capacity l.fn.out ≤ vec_capacity l.out)
