-- The lines of an input, and what each of them asks for. A line of spaces is blank and has no
-- reply. A line that is too long isn't blank, and asks for nothing, whatever it spells.
use Rattle.std.specs.Prelude.{◌≡◌, ℕ, ◌≤◌, List, [], ◌∷◌, length, count_by, take, Bool, true, false, not, ◌&&◌, ◌||◌, ◌==◌, nat_le, if◌then◌else◌, Option, Some, None, Result, Ok, Err}
use Rattle.std.specs.List.{list_all, filter}
use Rattle.cmd_json.specs.Known.{IsAskable}
use Rattle.cmd_json.specs.Line.{command_of}
use Rattle.cmd_json.specs.declared.command.Command.{Command}
use Rattle.cmd_json.specs.declared.command.Command.TheVariants.{Quit}
use Rattle.cmd_json.specs.declared.refusal.CmdRefused.{CmdRefused}
use Rattle.cmd_json.specs.declared.refusal.CmdRefused.TheVariants as cmd
use Rattle.migrate_server.specs.declared.line.TheConstants.{LINE_LIMIT, LF}
use Rattle.migrate_server.specs.declared.line.Line.{Line}
use Rattle.migrate_server.specs.declared.line.Line.TheVariants.{Blank, Asks, Refuses}
use Rattle.answers.specs.declared.refusal.Refusal.{Refusal}
use Rattle.answers.specs.declared.refusal.Refusal.TheVariants as refusal
use Rattle.answers.specs.declared.refusal.Refusal.TheVariants.{Long, Json, Field, Number}

abbrev pub is_lf : ℕ → Bool
is_lf b = b == LF

-- b and then the first line
abbrev pub before_first_line : ℕ → List (List ℕ) → List (List ℕ)
before_first_line b [] = (b ∷ []) ∷ []
before_first_line b (line ∷ lines) = (b ∷ line) ∷ lines

-- the bytes up to each LF, and those behind the last one where there are any
abbrev pub lines_of : List ℕ → List (List ℕ)
lines_of [] = []
lines_of (b ∷ bytes) = if is_lf b then [] ∷ lines_of bytes else before_first_line b (lines_of bytes)

-- the lines whose LF is among the bytes: as many of the first as there are LFs
abbrev pub ended_lines : List ℕ → List (List ℕ)
ended_lines bytes = take (count_by is_lf bytes) (lines_of bytes)

-- a space, a tab or a CR
abbrev pub is_space : ℕ → Bool
is_space b = (b == 32) || (b == 9) || (b == 13)

abbrev pub is_blank : List ℕ → Bool
is_blank line = nat_le (length line) LINE_LIMIT && list_all is_space line

-- those of the lines that have a reply
abbrev pub requests_among : List (List ℕ) → List (List ℕ)
requests_among lines = filter (λ line. not (is_blank line)) lines

-- why a line that isn't blank asks for nothing that could be carried out, if so
abbrev pub refusal_told : CmdRefused → Option Refusal
refusal_told cmd.Json = Some Json
refusal_told cmd.Command = Some refusal.Command
refusal_told (cmd.Field name) = Some (Field name)
refusal_told (cmd.Number name) = Some (Number name)
-- no line means it
refusal_told cmd.NoMemory = None

abbrev pub refused_by : Result Command CmdRefused → Option Refusal
refused_by (Ok command) = None
refused_by (Err why) = refusal_told why

abbrev pub line_refusal : (line : List ℕ) → Option Refusal
line_refusal line =
    if nat_le (length line) LINE_LIMIT then refused_by (command_of line) else Some Long

-- the line asks for a command: it is one that is built, with all its members in their ranges
pub record AsksFor (line : List ℕ) (command : Command) : Type 0 where
  pub some : is_blank line ≡ false
  pub fits : length line ≤ LINE_LIMIT
  pub reads : command_of line ≡ Ok command

-- what a line is: blank, a command, or neither, and then it has one refusal
abbrev pub Means : (line : List ℕ) → Line → Type 0
Means line Blank = is_blank line ≡ true
Means line (Asks command) = AsksFor line command
Means line (Refuses why) = (is_blank line ≡ false) × (line_refusal line ≡ Some why)

-- what is known of a command that was read
abbrev pub AsksInRange : Line → Type 0
AsksInRange Blank = Unit {0}
AsksInRange (Asks command) = IsAskable command
AsksInRange (Refuses why) = Unit {0}

-- the line ends the session
abbrev pub AsksToQuit : (line : List ℕ) → Type 0
AsksToQuit line = AsksFor line Quit

abbrev pub quits : Line → Bool
quits (Asks Quit) = true
quits _ = false
