use Rattle.std.proofs.Common.{sym, ◌∙◌}
use Rattle.std.proofs.lemmas.Simd.{map-map}
use Rattle.ctl_state.specs.StatusLine.{checkpoint_line}
use Rattle.plan_commands.specs.commands.Status.{check_line}
use Rattle.plan_commands.proofs.line.check_lines.Goals as goal

pub returns : goal.returns
returns c = c.from_vec.ensures ∙ c.in_ok-shown.ensures
    ∙ sym (map-map check_line checkpoint_line c.args.checkpoints.now)
