-- A lone sector stands at its own offset alone.
use Rattle.std.proofs.Common.{◌≡◌, sym, ◌∙◌}
use Rattle.snapshot_chain.proofs.Masks.{lone_here, lone_other}
use Rattle.snapshot_chain.proofs.page128.Page128.get.Goals as goal

pub returns-then-from-offset : goal.returns-then-from-offset
returns-then-from-offset c =
    let same : c.in-Lone.own ≡ c.args.offset = sym c.from.ensures ∙ c.if-from-offset.true in
    rw (← c.self.view_is, c.in-Lone.is, c.as_sector.ensures, same)
    (sym (lone_here c.args.offset c.in-Lone.sector))

pub returns-else-from-offset : goal.returns-else-from-offset
returns-else-from-offset c =
    rw (← c.self.view_is, c.in-Lone.is)
    (sym (lone_other c.in-Lone.own c.args.offset c.in-Lone.sector
    (λ same. c.if-from-offset.false (c.from.ensures ∙ sym same))))
