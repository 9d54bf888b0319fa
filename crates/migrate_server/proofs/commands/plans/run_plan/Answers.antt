use Rattle.std.proofs.Common.{ap}
use Rattle.migrate_server.specs.World.{server_of}
use Rattle.migrate_server.proofs.Adding.{plan_is_new}
use Rattle.migrate_server.proofs.Carrying.{answered, carried_taken, may_be_added, plan_adds, plan_asks, unanswered}
use Rattle.migrate_server.proofs.commands.plans.run_plan.Goals as goal

pub returns-clause-answer : goal.returns-clause-answer
returns-clause-answer g c =
    let v = c.args.controller.now.state in
    let S = g.T.VolumeStore.state in
    let old = server_of c.args.fleet.now c.args.controller.now.journal
    (S c.args.controller.now.store) in
    let journal = c.carry_out_plan.new.controller.journal in
    let new = server_of c.args.fleet.now journal (S c.carry_out_plan.new.controller.store) in
    let kept = ap (λ store. server_of c.args.fleet.now journal (S store))
    c.carry_out_plan.ensures.store in
    answered _ old new _ _ _ v c.carry_out_plan.new.controller.state c.carry_out_plan.result
    (plan_adds c.args.name.now c.args.vms.now c.args.interval)
    (plan_asks c.args.name.now c.args.vms.now c.args.interval old v c.requires.ready.come_to) kept
    c.carry_out_plan.ensures.carried

pub returns-clause-unanswered : goal.returns-clause-unanswered
returns-clause-unanswered g c =
    let v = c.args.controller.now.state in
    let S = g.T.VolumeStore.state in
    let old = server_of c.args.fleet.now c.args.controller.now.journal
    (S c.args.controller.now.store) in
    let journal = c.carry_out_plan.new.controller.journal in
    let new = server_of c.args.fleet.now journal (S c.carry_out_plan.new.controller.store) in
    let kept = ap (λ store. server_of c.args.fleet.now journal (S store))
    c.carry_out_plan.ensures.store in
    unanswered _ old new _ _ _ v c.carry_out_plan.new.controller.state c.carry_out_plan.result
    (plan_adds c.args.name.now c.args.vms.now c.args.interval)
    (plan_asks c.args.name.now c.args.vms.now c.args.interval old v c.requires.ready.come_to) kept
    c.carry_out_plan.ensures.carried

pub returns-clause-taken : goal.returns-clause-taken
returns-clause-taken g c =
    let v = c.args.controller.now.state in
    let j = c.args.controller.now.journal in
    let fleet = c.args.fleet.now in
    let name = c.args.name.now in
    let vms = c.args.vms.now in
    carried_taken fleet _ _ _ v c.carry_out_plan.new.controller.state j
    c.carry_out_plan.new.controller.journal c.carry_out_plan.result c.requires.ready
    c.requires.taken.0
    (λ none. may_be_added fleet v j.records _ c.requires.ready.come_to
    (c.what_is_asked_may_be_kept.ensures.plans v fleet name vms c.args.interval
    c.fleet_is_sound.ensures c.requires.named c.requires.limited none)
    (plan_is_new c.plans_list_tracked_machines.ensures v fleet name vms c.args.interval
    c.requires.all_in none)) c.carry_out_plan.ensures.carried
