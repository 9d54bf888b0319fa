-- What holds of every identifier and every packing.
use Rattle.std.specs.Prelude.{◌≡◌, ℕ, ◌^◌, ◌<◌, List, Result, Ok}
use Rattle.change_id.specs.declared.ChangeId.{ChangeId}
use Rattle.change_id.specs.declared.IdRefused.{IdRefused}
use Rattle.change_id.specs.ChangeId.{IsIdentifier, IsAnswer, spelling, packed}

-- no text has two answers
abbrev pub OneAnswer : Type 0
OneAnswer = (text : List ℕ) (a b : Result ChangeId IdRefused)
    → IsAnswer text a → IsAnswer text b → a ≡ b

-- a written identifier can be read as nothing but itself
abbrev pub WrittenParses : Type 0
WrittenParses = (id : ChangeId) (answer : Result ChangeId IdRefused) → IsIdentifier id
    → IsAnswer (spelling id.uuid id.seq) answer → answer ≡ Ok id

-- no two identifiers share a spelling
abbrev pub SpellingsDiffer : Type 0
SpellingsDiffer = (a b : ChangeId) → IsIdentifier a → IsIdentifier b
    → spelling a.uuid a.seq ≡ spelling b.uuid b.seq → a ≡ b

-- a packing has 128 bits
abbrev pub PackingsFit : Type 0
PackingsFit = (machine disk resets : ℕ) → machine < 2 ^ 32 → disk < 2 ^ 32 → resets < 2 ^ 64
    → packed machine disk resets < 2 ^ 128

-- no two triples share a packing
abbrev pub PackingsDiffer : Type 0
PackingsDiffer = (machine disk resets machine' disk' resets' : ℕ)
    → machine < 2 ^ 32 → disk < 2 ^ 32 → resets < 2 ^ 64
    → machine' < 2 ^ 32 → disk' < 2 ^ 32 → resets' < 2 ^ 64
    → packed machine disk resets ≡ packed machine' disk' resets'
    → (machine ≡ machine') × (disk ≡ disk') × (resets ≡ resets')
