use Rattle.std.proofs.Common.{◌∙◌}
use Rattle.cmd_json.proofs.MomentLemmas.{parsed_moment}
use Rattle.cmd_json.proofs.kinds.moment_of.Goals as goal

pub returns : goal.returns
returns c =
    c.ok.ensures.value
    ∙ parsed_moment c.args.text.now c.parse.result c.parse.ensures.refused c.parse.ensures.told
