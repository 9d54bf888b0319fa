-- The machine stays as it is, and what it answers is what is asked for.
use Rattle.std.proofs.Common.{◌≡◌, true, ap, ◌∙◌, sym}
use Rattle.log_model.specs.Link.{LinkState}
use Rattle.log_model.proofs.LinkLaws.{calls_alone}
use Rattle.fleet_commands.proofs.Asking.{shows_then, refuses_then}
use Rattle.fleet_commands.proofs.Showing.{id_found}
use Rattle.fleet_commands.proofs.query.ask.Goals as goal

pub returns-in-Ok-query-clause-answer : goal.returns-in-Ok-query-clause-answer
returns-in-Ok-query-clause-answer c =
    let first : LinkState = c.args.link.now in
    let met : LinkState = c.query.new.self in
    let left : LinkState = c.change_id.new.self in
    let before : met ≡ first = (calls_alone first met c.requires).reads c.query.ensures.reads in
    let alone : met.unshared ≡ true =
    ap (λ (l : LinkState). l.unshared) before ∙ c.requires in
    let after : left ≡ first =
    (calls_alone met left alone).reads c.change_id.ensures.reads ∙ before in
    let is = id_found first met left c.args.line.snapshot c.args.line.disk c.change_id.result
    c.unwrap.result before after c.unwrap.ensures c.change_id.ensures.found in
    let filled = rw c.in-Ok-query.is at c.query.ensures.areas in
    rw c.in-Ok.is (shows_then c.args.line.snapshot c.args.line.disk c.in-Ok.since
    c.args.line.start first met c.query.result c.requires c.query.ensures.reads
    c.query.ensures.refused c.in-Ok-query.is c.query.new.page filled c.unwrap.result is)

pub returns-in_ok-ok_or-in-Err-query-clause-answer :
    goal.returns-in_ok-ok_or-in-Err-query-clause-answer
returns-in_ok-ok_or-in-Err-query-clause-answer c =
    let told = sym c.link_told.ensures ∙ c.in_ok-ok_or-in-Err-query.ensures.ok_part in
    rw c.in-Ok.is (refuses_then c.args.line.snapshot c.args.line.disk c.in-Ok.since
    c.args.line.start c.args.link.now c.query.new.self c.query.result c.requires
    c.query.ensures.reads c.query.ensures.refused c.in-Err-query.why c.in-Err-query.is _ told
    c.query.new.page)
