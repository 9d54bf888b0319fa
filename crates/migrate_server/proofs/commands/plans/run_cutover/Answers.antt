use Rattle.migrate_server.proofs.Adding.{cutover_is_new}
use Rattle.migrate_server.proofs.Carrying.{carried_taken, may_be_added}
use Rattle.migrate_server.proofs.commands.plans.run_cutover.Goals as goal

pub returns-clause-taken : goal.returns-clause-taken
returns-clause-taken g c =
    let v = c.args.controller.now.state in
    let j = c.args.controller.now.journal in
    let plan = c.args.plan.now in
    carried_taken c.args.fleet.now _ _ _ v c.carry_out_cutover.new.controller.state j
    c.carry_out_cutover.new.controller.journal c.carry_out_cutover.result c.requires.ready
    c.requires.taken.0
    (λ none. may_be_added c.args.fleet.now v j.records _ c.requires.ready.come_to
    (c.what_is_asked_may_be_kept.ensures.cutovers v plan c.args.at none)
    (cutover_is_new c.args.fleet.now v plan c.args.at))
    c.carry_out_cutover.ensures.carried
