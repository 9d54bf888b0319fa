use Rattle.std.proofs.Common.{◌≡◌, true, sym, ap, ◌∙◌}
use Rattle.change_id.specs.declared.Since.{Since}
use Rattle.log_model.specs.Query.{changed_areas, accepts}
use Rattle.log_model.proofs.AnswerLaws.{told-from}
use Rattle.log_model.proofs.query.since_place.Goals as goal

pub returns-in-From : goal.returns-in-From
returns-in-From c = λ size.
    let accepted : accepts c.args.machine c.args.disk c.args.snapshot c.in-From.id c.args.log.now
    ≡ true = sym c.accepts.ensures ∙ c.if-accepts.true in
    ap (λ (since : Since). changed_areas c.args.machine size c.args.disk c.args.snapshot since
    c.args.log.now) c.in-From.is
    ∙ told-from c.args.machine size c.args.disk c.args.snapshot c.numbered_place.result c.in-From.id
    c.args.log.now accepted c.numbered_place.ensures.place
