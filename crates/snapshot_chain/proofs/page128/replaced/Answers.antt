-- A lone sector is replaced at its own offset alone.
use Rattle.std.proofs.Common.{◌≡◌, sym, ◌∙◌}
use Rattle.snapshot_chain.specs.Page128.{no_sectors, with_sector}
use Rattle.snapshot_chain.proofs.Masks.{lone_other, lone_replaced, kept_sector}
use Rattle.snapshot_chain.proofs.page128.replaced.Goals as goal
use Rattle.snapshot_chain.proofs.page128.replaced.Goals.{then-from-offset, else-from-offset}

pub returns-after-from-offset-clause-sectors : goal.returns-after-from-offset-clause-sectors
returns-after-from-offset-clause-sectors c = elim c.if-from-offset.branch [
  | then-from-offset w ↦
      let same : c.in-Lone.own ≡ c.args.offset = sym c.from.ensures ∙ w.if-from-offset.true in
      rw (c.in-Lone.is, w.lone-is, w.set.ensures, same)
      (lone_replaced c.args.offset c.in-Lone.lone c.args.sector.now)
  | else-from-offset w ↦
      rw (c.in-Lone.is, w.lone-is)
      (kept_sector (with_sector no_sectors c.in-Lone.own c.in-Lone.lone) c.args.offset
      c.args.sector.now (lone_other c.in-Lone.own c.args.offset c.in-Lone.lone
      (λ same. w.if-from-offset.false (c.from.ensures ∙ sym same))))
]
