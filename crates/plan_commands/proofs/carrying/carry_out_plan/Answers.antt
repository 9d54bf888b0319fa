use Rattle.plan_commands.specs.commands.Plan.{plan_refusal, plan_records, plan_reply}
use Rattle.plan_commands.proofs.Carried.{asked_may_be_kept}
use Rattle.plan_commands.proofs.carrying.carry_out_plan.Goals as goal

pub kept-requires-clause-follow : goal.kept-requires-clause-follow
kept-requires-clause-follow g c =
    let v = c.args.controller.now.state in
    let fleet = c.args.fleet.now in
    let name = c.args.name.now in
    let vms = c.args.vms.now in
    let interval = c.args.interval in
    asked_may_be_kept v (plan_refusal name vms fleet v) (plan_records name vms interval fleet v)
    plan_reply c.in-Ok.asked (rw c.in-Ok.is at c.in_ok-asked.ensures)
    (c.what_is_asked_may_be_kept.ensures.plans v fleet name vms interval c.fleet_is_sound.ensures
    c.requires.named c.requires.limited)
