use Rattle.std.proofs.Common.{sym, ◌∙◌, refl}
use Rattle.source_disk.proofs.Answering.{query_unknown, query_refused, query_answers}
use Rattle.source_disk.proofs.source_disk.SourceDisk.query.Goals as goal

pub returns-then-not-is_live-clause-refused : goal.returns-then-not-is_live-clause-refused
returns-then-not-is_live-clause-refused c =
    λ log stands. rw (query_unknown c.args.self.now c.args.id c.args.since c.args.start log stands
    (sym c.is_live.ensures ∙ c.if-not-is_live.true)) refl

pub returns-clause-refused : goal.returns-clause-refused
returns-clause-refused c =
    let live = rw (← c.self.view_is) at (sym c.is_live.ensures ∙ c.if-not-is_live.false) in
    rw (← c.self.view_is)
    (λ log stands. query_refused
    (record { chain = c.self.inside.chain; tracker = c.self.inside.tracker }) c.args.id log
    stands live c.args.since c.args.start c.query.result c.query.ensures.refused)

pub returns-clause-areas : goal.returns-clause-areas
returns-clause-areas c =
    let live = rw (← c.self.view_is) at (sym c.is_live.ensures ∙ c.if-not-is_live.false) in
    rw (← c.self.view_is)
    (λ log stands. query_answers
    (record { chain = c.self.inside.chain; tracker = c.self.inside.tracker }) c.args.id log
    stands live c.args.since c.args.start c.query.result c.query.new.page c.query.ensures.areas)
