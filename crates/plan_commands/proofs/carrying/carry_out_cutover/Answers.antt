use Rattle.plan_commands.specs.commands.Cutover.{cutover_refusal, cutover_records, cutover_reply}
use Rattle.plan_commands.proofs.Carried.{asked_may_be_kept}
use Rattle.plan_commands.proofs.carrying.carry_out_cutover.Goals as goal

pub kept-requires-clause-follow : goal.kept-requires-clause-follow
kept-requires-clause-follow g c =
    let v = c.args.controller.now.state in
    let plan = c.args.plan.now in
    let at = c.args.at in
    asked_may_be_kept v (cutover_refusal plan v) (cutover_records plan at v) cutover_reply
    c.in-Ok.asked (rw c.in-Ok.is at c.in_ok-asked.ensures)
    (c.what_is_asked_may_be_kept.ensures.cutovers v plan at)
