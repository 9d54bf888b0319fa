-- What reading a body may answer. Bad and want of memory exclude each other, whatever the body:
-- only what spells a record needs memory.
use Rattle.std.specs.Prelude.{ℕ, List, Option, Some, None, Result, Ok, Err}
use Rattle.record_codec.specs.declared.record.Record.{Record}
use Rattle.record_codec.specs.declared.parse.CodecRefused.{CodecRefused}
use Rattle.record_codec.specs.declared.parse.CodecRefused.TheVariants.{Bad, NoMemory}
use Rattle.record_codec.specs.Record.{Spells}

-- the record that the body spells; Bad where it spells none; want of memory only where it spells
-- one
abbrev pub IsDecoded : List ℕ → Result Record CodecRefused → Type 0
IsDecoded body (Ok r) = Spells body r
IsDecoded body (Err Bad) = (r : Record) → ¬ (Spells body r)
IsDecoded body (Err NoMemory) = (r : Record) × Spells body r

abbrev pub refusal_number : CodecRefused → Option ℕ
refusal_number Bad = Some 1
refusal_number NoMemory = None
