-- What a command is answered: a reply to what it asked for, or a refusal; and what it leaves.
use Rattle.std.specs.Prelude.{◌≡◌, ℕ, List, Option, Some, None, Result, Ok, Err}
use Rattle.reply_json.specs.Reply.{line_of}
use Rattle.reply_json.specs.declared.reply.Reply.{Reply}
use Rattle.answers.specs.Refusal.{refusal_reply}
use Rattle.answers.specs.declared.refusal.Refusal.{Refusal}

abbrev pub Answer : Type 0
Answer = Result Reply Refusal

abbrev pub reply_for : Answer → Reply
reply_for (Ok reply) = reply
reply_for (Err why) = refusal_reply why

-- the line of the reply, with its LF
unfoldable pub answer_line : Answer → List ℕ
answer_line answer = line_of (reply_for answer)

-- a command that has this refusal, or none, is answered so: it is refused, and changes nothing; or
-- it has this reply, and leaves what is next
abbrev pub AnswersFor : {S : Type 0} → (refusal : Option Refusal) → (reply : Reply) → (next : S)
    → Answer → (old new : S) → Type 0
AnswersFor refusal reply next (Ok answer) old new =
    (refusal ≡ None) × (answer ≡ reply) × (new ≡ next)
AnswersFor refusal reply next (Err why) old new = (refusal ≡ Some why) × (new ≡ old)
