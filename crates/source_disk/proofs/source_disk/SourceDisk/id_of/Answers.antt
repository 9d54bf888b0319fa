use Rattle.std.proofs.Common.{sym, ◌∙◌, refl}
use Rattle.source_disk.proofs.Answering.{id_unknown, id_refused, id_found}
use Rattle.source_disk.proofs.source_disk.SourceDisk.id_of.Goals as goal

pub returns-then-is_live-clause-refused : goal.returns-then-is_live-clause-refused
returns-then-is_live-clause-refused c =
    let live = rw (← c.self.view_is) at (sym c.is_live.ensures ∙ c.if-is_live.true) in
    rw (← c.self.view_is)
    (λ log stands. id_refused
    (record { chain = c.self.inside.chain; tracker = c.self.inside.tracker }) c.args.id log
    stands live c.id_of.result c.id_of.ensures.refused)

pub returns-then-is_live-clause-found : goal.returns-then-is_live-clause-found
returns-then-is_live-clause-found c =
    let live = rw (← c.self.view_is) at (sym c.is_live.ensures ∙ c.if-is_live.true) in
    rw (← c.self.view_is)
    (λ log stands. id_found
    (record { chain = c.self.inside.chain; tracker = c.self.inside.tracker }) c.args.id log
    stands live c.id_of.result c.id_of.ensures.found)

pub returns-else-is_live-clause-refused : goal.returns-else-is_live-clause-refused
returns-else-is_live-clause-refused c =
    λ log stands. rw (id_unknown c.args.self.now c.args.id log stands
    (sym c.is_live.ensures ∙ c.if-is_live.false)) refl
