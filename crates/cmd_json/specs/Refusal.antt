-- The numbers and texts of the refusals.
use Rattle.std.specs.Prelude.{ℕ, List, ◌++◌, Option, Some, None, codes}
use Rattle.cmd_json.specs.declared.refusal.CmdRefused.{CmdRefused}
use Rattle.cmd_json.specs.declared.refusal.CmdRefused.TheVariants.{Json, Command, Field, Number, NoMemory}

-- want of memory has no number
abbrev pub refusal_number : CmdRefused → Option ℕ
refusal_number Json = Some 1
refusal_number Command = Some 2
refusal_number (Field name) = Some 3
refusal_number (Number name) = Some 4
refusal_number NoMemory = None

abbrev pub refusal_text : CmdRefused → List ℕ
refusal_text Json = codes "the line isn't JSON"
refusal_text Command = codes "there is no such command"
refusal_text (Field name) = codes "missing, wrong or unknown: " ++ name
refusal_text (Number name) = codes "not in its range: " ++ name
refusal_text NoMemory = codes "memory ran out"
