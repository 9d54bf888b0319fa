use Rattle.std.proofs.Common.{◌≡◌, ◌*◌, ◌-◌, ◌++◌, length}
use Rattle.record_codec.specs.Parse.{words_in}
use Rattle.record_codec.proofs.variable.words.Given as goal

abbrev pub invariant-loop : goal.invariant-loop
invariant-loop l = (l.words.items ++ words_in (l.count - l.counter) l.fields
    ≡ words_in l.count l.bytes)
    × (length l.fields ≡ 4 * (l.count - l.counter))
