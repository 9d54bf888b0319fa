-- What holds of the text of every reply.
use Rattle.std.specs.Prelude.{◌≡◌, ℕ, List, Contains, Some}
use Rattle.std.specs.Str.{IsAscii}
use Rattle.serde_json.specs.Data.{string}
use Rattle.serde_json.specs.Read.{read}
use Rattle.serde_json.specs.Written.{compact_text}
use Rattle.reply_json.specs.Fits.{NumbersFit}
use Rattle.reply_json.specs.Values.{digits_data}
use Rattle.reply_json.specs.declared.reply.Reply.{Reply}
use Rattle.reply_json.specs.Reply.{reply_data}

-- the text of a reply reads back as the object that it means
abbrev pub ReadsBack : Type 0
ReadsBack = (reply : Reply) → NumbersFit (reply_data reply)
    → read (compact_text (reply_data reply)) ≡ Some (reply_data reply)

-- it has no line feed, so lines that were written one after another can be cut in one way alone
abbrev pub OneLine : Type 0
OneLine = (reply : Reply) → NumbersFit (reply_data reply)
    → ¬ (Contains (compact_text (reply_data reply)) 10)

-- digits are the text that they show, as every list of ASCII is
abbrev pub DigitsAreText : Type 0
DigitsAreText = (digits : List ℕ) → IsAscii digits → digits_data digits ≡ string digits
