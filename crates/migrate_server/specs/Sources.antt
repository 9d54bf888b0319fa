-- What the lines of an input make of a machine's log, which says what its disks hold: each command
-- that isn't refused adds its own entry where it has one, and nothing else changes a log.
use Rattle.std.specs.Prelude.{ℕ, List, [], ◌∷◌, ◌++◌, Result, Ok, Err}
use Rattle.cmd_json.specs.Line.{command_of}
use Rattle.cmd_json.specs.declared.command.Command.{Command}
use Rattle.cmd_json.specs.declared.refusal.CmdRefused.{CmdRefused}
use Rattle.log_model.specs.declared.entry.Entry.{Entry}
use Rattle.answers.specs.Answer.{Answer}
use Rattle.fleet_commands.specs.Logs.{entries_of}

-- what is asked for adds to the log of the machine of this name, where it isn't refused
abbrev pub entries_asked : Result Command CmdRefused → (name : List ℕ) → (log : List Entry)
    → List Entry
entries_asked (Ok command) name log = entries_of command name log
entries_asked (Err why) name log = []

-- the log of the machine of this name behind these lines, by their answers
abbrev pub log_after : (name : List ℕ) → (log : List Entry) → List (List ℕ) → List Answer
    → List Entry
log_after name log (line ∷ lines) (Ok reply ∷ answers) =
    log_after name (log ++ entries_asked (command_of line) name log) lines answers
log_after name log (line ∷ lines) (Err why ∷ answers) = log_after name log lines answers
log_after name log lines answers = log
