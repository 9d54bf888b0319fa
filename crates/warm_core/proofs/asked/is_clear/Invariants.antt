use Rattle.std.proofs.Common.{take}
use Rattle.warm_core.specs.Asked.{AreMissed}
use Rattle.warm_core.proofs.asked.is_clear.Given as goal

-- none of the entries so far touches the range
abbrev pub invariant-loop-entry : goal.invariant-loop-entry
invariant-loop-entry l = AreMissed l.disk l.from l.end (take l.entry-index l.entries)
