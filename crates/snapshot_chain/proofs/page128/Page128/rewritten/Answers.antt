-- One offset more: what both have there is behind the others, or is nothing.
use Rattle.std.proofs.Common.{◌≡◌, ℕ, ◌+◌, ◌*◌, ◌∙◌, Option, ap, sym, refl}
use Rattle.std.specs.Option.{option_or, option_copied}
use Rattle.sector_model.specs.declared.sector.Sector.{Sector}
use Rattle.snapshot_chain.specs.Page128.{sector_at, run_at}
use Rattle.snapshot_chain.proofs.Masks.{built_some, built_none, built_empty, copied_or}
use Rattle.snapshot_chain.proofs.page128.Page128.rewritten.Goals as goal
use Rattle.snapshot_chain.proofs.page128.Page128.rewritten.Goals.{in-Some+in_ok-page, in_default}

pub loop-offset-init : goal.loop-offset-init
loop-offset-init c = rw c.empty-page.ensures (built_empty _)

pub loop-offset-preserved : goal.loop-offset-preserved
loop-offset-preserved c =
    let f : ℕ → Option Sector =
    λ k. option_or (run_at c.args.first c.args.sectors.now (128 * c.args.block + k))
    (sector_at c.args.self.now k) in
    let here : option_copied c.or.result ≡ f c.loop-offset.offset =
    ap option_copied c.or.ensures ∙ copied_or c.run_get-written.result c.get.result
    ∙ rw (c.run_get-written.ensures, c.get.ensures) refl in
    elim c.match-or.branch [
      | in-Some+in_ok-page w ↦
          rw (w.page-is, w.in_ok-page.ensures)
          (built_some c.loop-offset.page c.loop-offset.offset w.in-Some.sector.now f
          c.loop-offset-test.true c.loop-offset.invariant
          (sym here ∙ ap option_copied w.in-Some.is))
      | in_default w ↦ rw w.page-is
          (built_none c.loop-offset.page c.loop-offset.offset f c.loop-offset.invariant
          (sym here ∙ ap option_copied w.in_default.is))
    ]
