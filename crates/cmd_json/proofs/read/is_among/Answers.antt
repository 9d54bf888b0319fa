use Rattle.std.proofs.Common.{◌∙◌}
use Rattle.cmd_json.proofs.LineLemmas.{contains-names_of}
use Rattle.cmd_json.proofs.read.is_among.Goals as goal

pub returns : goal.returns
returns c = c.contains.ensures.value ∙ contains-names_of c.args.names.now c.args.name.now
