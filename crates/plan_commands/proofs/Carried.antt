-- That what is asked for may be kept.
use Rattle.std.proofs.Common.{◌≡◌, List, Option, None, Ok, sym, subst}
use Rattle.answers.specs.declared.refusal.Refusal.{Refusal}
use Rattle.record_codec.specs.declared.record.Record.{Record}
use Rattle.ctl_state.specs.Value.{CtlValue}
use Rattle.record_keeping.specs.Keeping.{MayBeKept}
use Rattle.reply_json.specs.declared.reply.Reply.{Reply}
use Rattle.plan_commands.specs.Asked.{IsDecidedBy}
use Rattle.plan_commands.specs.declared.asked.Asked.{Asked}

-- what is asked for may be kept where the records of a command that isn't refused may
pub asked_may_be_kept : (v : CtlValue) (refusal : Option Refusal) (records : List Record)
    (reply : Reply) (asked : Asked) → IsDecidedBy refusal records reply (Ok asked)
    → (refusal ≡ None → MayBeKept v records) → MayBeKept v asked.records
asked_may_be_kept v refusal records reply asked asks may =
    subst (λ (rs : List Record). MayBeKept v rs) (sym asks.1) (may asks.0)
