use Rattle.std.proofs.Common.{ap, ◌∙◌, sym, subst}
use Rattle.std.specs.Option.{ok_or}
use Rattle.serde_json.specs.Read.{read}
use Rattle.cmd_json.specs.Kinds.{result_and_then}
use Rattle.cmd_json.specs.Line.{names_of, command_of_data}
use Rattle.cmd_json.specs.Members.{Gives}
use Rattle.cmd_json.specs.declared.refusal.CmdRefused.TheVariants.{Json, NoMemory}
use Rattle.cmd_json.proofs.LineLemmas.{among_text, among_unread}
use Rattle.cmd_json.proofs.read.CommandReader.read_among.Goals as goal

pub returns-in-Ok-clause-read : goal.returns-in-Ok-clause-read
returns-in-Ok-clause-read c =
    let built = names_of c.args.built.now in
    let text = c.in-Ok.ensures.0 in
    let same =
    ap (λ s. result_and_then (command_of_data built) (ok_or (read s) Json)) text
    ∙ sym (among_text built c.args.line.now c.in-Ok.ensures.1) in
    subst (λ meant. Gives NoMemory meant c.read_text.result) same c.read_text.ensures.read

pub returns-in-Err-clause-read : goal.returns-in-Err-clause-read
returns-in-Err-clause-read c = λ paid.
    among_unread (names_of c.args.built.now) c.args.line.now c.in-Err.ensures
