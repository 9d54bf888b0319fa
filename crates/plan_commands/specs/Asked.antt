-- What a command on plans asks for: records that are to be kept, in order, before it is answered,
-- and its reply; or why it is refused. It changes nothing itself.
use Rattle.std.specs.Prelude.{◌≡◌, List, Option, Some, None, Result, Ok, Err}
use Rattle.answers.specs.declared.refusal.Refusal.{Refusal}
use Rattle.record_codec.specs.declared.record.Record.{Record}
use Rattle.reply_json.specs.declared.reply.Reply.{Reply}
use Rattle.plan_commands.specs.declared.asked.Asked.{Asked}

-- a command that has this refusal, or none, asks for these records and has this reply
abbrev pub IsDecidedBy : (refusal : Option Refusal) → (records : List Record) → (reply : Reply)
    → Result Asked Refusal → Type 0
IsDecidedBy refusal records reply (Ok asked) =
    (refusal ≡ None) × (asked.records ≡ records) × (asked.reply ≡ reply)
IsDecidedBy refusal records reply (Err why) = refusal ≡ Some why
