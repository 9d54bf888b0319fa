use Rattle.std.proofs.Common.{◌≡◌, ◌*◌, ◌-◌, ◌++◌, length}
use Rattle.record_codec.specs.Parse.{ids_in}
use Rattle.record_codec.proofs.variable.identifiers.Given as goal

abbrev pub invariant-loop : goal.invariant-loop
invariant-loop l = (l.ids.items ++ ids_in (l.count - l.counter) l.fields ≡ ids_in l.count l.bytes)
    × (length l.fields ≡ 24 * (l.count - l.counter))
