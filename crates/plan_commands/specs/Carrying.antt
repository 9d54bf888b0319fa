-- What carrying a command on plans out leaves of a controller: of its state and of its journal. It is
-- answered once its records are kept. Refused, it keeps none; not answered, a front of them.
use Rattle.std.specs.Prelude.{◌≡◌, List, Option, Some, None, Result, Ok, Err}
use Rattle.answers.specs.Answer.{Answer}
use Rattle.answers.specs.declared.refusal.Refusal.{Refusal}
use Rattle.record_codec.specs.declared.record.Record.{Record}
use Rattle.record_keeping.specs.Keeping.{Keeping, Keeps, KeepsFront}
use Rattle.record_keeping.specs.declared.refusal.NotKept.{NotKept}
use Rattle.record_keeping.specs.declared.refusal.NotKept.TheVariants.{NoMemory}
use Rattle.reply_json.specs.declared.reply.Reply.{Reply}

-- a command that has this refusal, or none, wasn't answered: one that is refused meets want of memory
-- alone, and keeps nothing
abbrev pub IsCutShort : (refusal : Option Refusal) → (records : List Record) → (why : NotKept)
    → (old new : Keeping) → Type 0
IsCutShort None records why old new = KeepsFront why records old.journal new.journal
IsCutShort (Some refusal) records why old new = (why ≡ NoMemory) × (new ≡ old)

-- a command that has this refusal, or none, asks for these records and has this reply, was answered
-- so, or not
abbrev pub CarriesOut : (refusal : Option Refusal) → (records : List Record) → (reply : Reply)
    → Result Answer NotKept → (old new : Keeping) → Type 0
CarriesOut refusal records reply (Ok (Ok told)) old new =
    (refusal ≡ None) × (told ≡ reply) × Keeps records old new
CarriesOut refusal records reply (Ok (Err why)) old new = (refusal ≡ Some why) × (new ≡ old)
CarriesOut refusal records reply (Err why) old new = IsCutShort refusal records why old new
