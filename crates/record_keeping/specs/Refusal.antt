-- The text of each reason why a record isn't kept.
use Rattle.std.specs.Prelude.{ℕ, List, codes}
use Rattle.record_keeping.specs.declared.refusal.NotKept.{NotKept}
use Rattle.record_keeping.specs.declared.refusal.NotKept.TheVariants.{Fault, Full, NoMemory}

abbrev pub refusal_text : NotKept → List ℕ
refusal_text Fault = codes "the journal's disk failed"
refusal_text Full = codes "the journal has no room for the record"
refusal_text NoMemory = codes "memory ran out"
