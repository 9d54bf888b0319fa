-- The machine goes back as it was, and its answer is told.
use Rattle.std.proofs.Common.{◌≡◌, Some, Ok, Err, ap, ◌∙◌, sym, subst}
use Rattle.basics.proofs.Results.{on_err}
use Rattle.log_model.specs.Link.{LinkState, FollowsFrom}
use Rattle.log_model.specs.declared.entry.TheConstants.{MIGRATION_CALLER}
use Rattle.log_model.proofs.LinkLaws.{calls_follow}
use Rattle.source_vm.specs.Machine.{MachineState, link_of}
use Rattle.fleet.specs.Lending.{after_lower}
use Rattle.fleet_commands.specs.Machines.{machine_named}
use Rattle.fleet_commands.specs.commands.Query.{PageAnswers}
use Rattle.fleet_commands.proofs.Lifting.{may_go_back, goes_back_same}
use Rattle.fleet_commands.proofs.Asking.{shown_fits, query_answers, query_refuses}
use Rattle.fleet_commands.proofs.query.run_query.Goals as goal

pub lower-requires : goal.lower-requires
lower-requires c =
    let m : MachineState = c.in-Some.machine in
    let named : machine_named c.args.vm.now c.args.fleet.now ≡ Some m =
    sym c.take_out.ensures.machine ∙ c.in-Some.is in
    let lent = rw c.in-Some.is at c.take_out.ensures.after in
    let same : c.ask-found.new.link ≡ link_of MIGRATION_CALLER m =
    c.ask-found.ensures.same ∙ c.of-link.ensures in
    let first : LinkState = link_of MIGRATION_CALLER m in
    rw lent (may_go_back c.args.vm.now m c.args.fleet.now named c.ask-found.new.link
    (subst (λ (l : LinkState). FollowsFrom first l) (sym same) (calls_follow first first).no_call))

pub returns-in_err-id-clause-err : goal.returns-in_err-id-clause-err
returns-in_err-id-clause-err c =
    let m : MachineState = c.in-Some.machine in
    let named : machine_named c.args.vm.now c.args.fleet.now ≡ Some m =
    sym c.take_out.ensures.machine ∙ c.in-Some.is in
    let lent = rw c.in-Some.is at c.take_out.ensures.after in
    let back : c.lower.new.self ≡ c.args.fleet.now =
    c.lower.ensures ∙ ap (after_lower c.ask-found.new.link) lent
    ∙ goes_back_same c.args.vm.now m c.args.fleet.now named c.ask-found.new.link
    (c.ask-found.ensures.same ∙ c.of-link.ensures) in
    on_err c.from_residual.result back

pub page_reply-requires-clause-within : goal.page_reply-requires-clause-within
page_reply-requires-clause-within c =
    let m : MachineState = c.in-Some.machine in
    let shown : PageAnswers c.args.line.snapshot c.args.line.disk c.since_of-asked.result
    c.args.line.start (link_of MIGRATION_CALLER m) (Ok c.in-Ok-2.id) c.ask-found.new.page =
    rw (c.in_ok-id.was, c.in-Ok-2.is, c.of-link.ensures) at c.ask-found.ensures.answer in
    (shown_fits c.args.line.snapshot c.args.line.disk c.since_of-asked.result c.args.line.start m
    c.in-Ok-2.id c.ask-found.new.page (rw c.in-Some.is at c.take_out.ensures.disks) shown).within

pub page_reply-requires-clause-areas : goal.page_reply-requires-clause-areas
page_reply-requires-clause-areas c =
    let m : MachineState = c.in-Some.machine in
    let shown : PageAnswers c.args.line.snapshot c.args.line.disk c.since_of-asked.result
    c.args.line.start (link_of MIGRATION_CALLER m) (Ok c.in-Ok-2.id) c.ask-found.new.page =
    rw (c.in_ok-id.was, c.in-Ok-2.is, c.of-link.ensures) at c.ask-found.ensures.answer in
    (shown_fits c.args.line.snapshot c.args.line.disk c.since_of-asked.result c.args.line.start m
    c.in-Ok-2.id c.ask-found.new.page (rw c.in-Some.is at c.take_out.ensures.disks) shown).areas

pub returns-in_err-page_reply-in-Ok-2-clause-err :
    goal.returns-in_err-page_reply-in-Ok-2-clause-err
returns-in_err-page_reply-in-Ok-2-clause-err c =
    let m : MachineState = c.in-Some.machine in
    let named : machine_named c.args.vm.now c.args.fleet.now ≡ Some m =
    sym c.take_out.ensures.machine ∙ c.in-Some.is in
    let lent = rw c.in-Some.is at c.take_out.ensures.after in
    let back : c.lower.new.self ≡ c.args.fleet.now =
    c.lower.ensures ∙ ap (after_lower c.ask-found.new.link) lent
    ∙ goes_back_same c.args.vm.now m c.args.fleet.now named c.ask-found.new.link
    (c.ask-found.ensures.same ∙ c.of-link.ensures) in
    on_err c.from_residual-in_err-page_reply-in-Ok-2.result back

pub returns-in-Ok-2-clause-answer : goal.returns-in-Ok-2-clause-answer
returns-in-Ok-2-clause-answer c =
    let m : MachineState = c.in-Some.machine in
    let named : machine_named c.args.vm.now c.args.fleet.now ≡ Some m =
    sym c.take_out.ensures.machine ∙ c.in-Some.is in
    let lent = rw c.in-Some.is at c.take_out.ensures.after in
    let back : c.lower.new.self ≡ c.args.fleet.now =
    c.lower.ensures ∙ ap (after_lower c.ask-found.new.link) lent
    ∙ goes_back_same c.args.vm.now m c.args.fleet.now named c.ask-found.new.link
    (c.ask-found.ensures.same ∙ c.of-link.ensures) in
    let shown : PageAnswers c.args.line.snapshot c.args.line.disk c.since_of-asked.result
    c.args.line.start (link_of MIGRATION_CALLER m) (Ok c.in-Ok-2.id) c.ask-found.new.page =
    rw (c.in_ok-id.was, c.in-Ok-2.is, c.of-link.ensures) at c.ask-found.ensures.answer in
    let told = rw c.in_ok-page_reply-in-Ok-2.was at c.page_reply.ensures in
    let found = query_answers c.args.vm.now c.args.line.snapshot c.args.line.disk
    c.since_of-asked.result c.args.line.start m c.args.fleet.now named c.ask-found.new.page
    c.in-Ok-2.id shown in
    (c.since_of-asked.result, c.since_of-asked.ensures, (found.0, told ∙ found.1, back))

pub returns-clause-answer : goal.returns-clause-answer
returns-clause-answer c =
    let m : MachineState = c.in-Some.machine in
    let named : machine_named c.args.vm.now c.args.fleet.now ≡ Some m =
    sym c.take_out.ensures.machine ∙ c.in-Some.is in
    let lent = rw c.in-Some.is at c.take_out.ensures.after in
    let back : c.lower.new.self ≡ c.args.fleet.now =
    c.lower.ensures ∙ ap (after_lower c.ask-found.new.link) lent
    ∙ goes_back_same c.args.vm.now m c.args.fleet.now named c.ask-found.new.link
    (c.ask-found.ensures.same ∙ c.of-link.ensures) in
    let refused : PageAnswers c.args.line.snapshot c.args.line.disk c.since_of-asked.result
    c.args.line.start (link_of MIGRATION_CALLER m) (Err c.in-Err.why) c.ask-found.new.page =
    rw (c.in_ok-id.was, c.in-Err.is, c.of-link.ensures) at c.ask-found.ensures.answer in
    let found = query_refuses c.args.vm.now c.args.line.snapshot c.args.line.disk
    c.since_of-asked.result c.args.line.start m c.args.fleet.now named c.ask-found.new.page
    c.in-Err.why refused in
    (c.since_of-asked.result, c.since_of-asked.ensures, (found.0, back))
