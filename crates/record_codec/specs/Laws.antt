-- What holds of every record and its bytes: a spelling is one record's alone, and has the size of
-- its fields. So the bytes of a record are read as that record and nothing else, unless memory runs
-- out.
use Rattle.std.specs.Prelude.{◌≡◌, ℕ, List, length, Result, Ok, Err}
use Rattle.record_codec.specs.declared.record.Record.{Record}
use Rattle.record_codec.specs.declared.parse.CodecRefused.{CodecRefused}
use Rattle.record_codec.specs.declared.parse.CodecRefused.TheVariants.{Bad, NoMemory}
use Rattle.record_codec.specs.Record.{HasSpelling, spelling, spelled_size, Spells}
use Rattle.record_codec.specs.Decoded.{IsDecoded}

-- no two records share a spelling
abbrev pub SpellingsDiffer : Type 0
SpellingsDiffer = (a b : Record) → HasSpelling a → HasSpelling b → spelling a ≡ spelling b → a ≡ b

-- the answer is this record, or want of memory
abbrev pub IsReadAs : Record → Result Record CodecRefused → Type 0
IsReadAs r (Ok other) = other ≡ r
IsReadAs r (Err Bad) = ⊥
IsReadAs r (Err NoMemory) = Unit {0}

-- what reading a spelling may answer
abbrev pub SpelledIsRead : Type 0
SpelledIsRead = (body : List ℕ) (r : Record) (answer : Result Record CodecRefused)
    → Spells body r → IsDecoded body answer → IsReadAs r answer

abbrev pub SpellingsHaveTheirSize : Type 0
SpellingsHaveTheirSize = (r : Record) → length (spelling r) ≡ spelled_size r
