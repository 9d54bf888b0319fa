use Rattle.migrate_server.proofs.Agreeing.{same_lines_same_replies}
use Rattle.migrate_server.proofs.SameInput.{same_input_same_output}
use Rattle.migrate_server.proofs.laws.sessions_agree.Goals as goal

pub returns-clause-lines : goal.returns-clause-lines
returns-clause-lines c = same_lines_same_replies

pub returns-clause-input : goal.returns-clause-input
returns-clause-input c = same_input_same_output
