use Rattle.migrate_server.proofs.Adding.{start_is_new}
use Rattle.migrate_server.proofs.Carrying.{carried_taken, have_machines, may_be_added, plans_ask}
use Rattle.migrate_server.proofs.commands.plans.run_start.Goals as goal

pub carry_out_start-requires-clause-there : goal.carry_out_start-requires-clause-there
carry_out_start-requires-clause-there g c =
    let v = c.args.controller.now.state in
    let j = c.args.controller.now.journal in
    have_machines c.args.fleet.now v (plans_ask c.agreeing_records_are_taken.ensures.agree
    c.args.fleet.now j.records v c.fleet_is_sound.ensures c.requires.ready.come_to
    c.requires.taken.0)

pub returns-clause-taken : goal.returns-clause-taken
returns-clause-taken g c =
    let v = c.args.controller.now.state in
    let j = c.args.controller.now.journal in
    let plan = c.args.plan.now in
    let fleet = c.args.fleet.now in
    let asks = plans_ask c.agreeing_records_are_taken.ensures.agree fleet j.records v
    c.fleet_is_sound.ensures c.requires.ready.come_to c.requires.taken.0 in
    carried_taken fleet _ _ _ v c.carry_out_start.new.controller.state j
    c.carry_out_start.new.controller.journal c.carry_out_start.result c.requires.ready
    c.requires.taken.0
    (λ none. may_be_added fleet v j.records _ c.requires.ready.come_to
    (c.what_is_asked_may_be_kept.ensures.starts v fleet plan c.fleet_is_sound.ensures
    (have_machines fleet v asks) none) (start_is_new fleet v plan asks))
    c.carry_out_start.ensures.carried
