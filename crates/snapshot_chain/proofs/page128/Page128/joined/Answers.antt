-- One offset more: what both have there is behind the others, or is nothing.
use Rattle.std.proofs.Common.{◌≡◌, ℕ, ◌∙◌, Option, ap, sym, refl, bit_or, arith}
use Rattle.std.proofs.lemmas.Nat.{ones-le, or_lt}
use Rattle.std.specs.Option.{option_or, option_copied}
use Rattle.sector_model.specs.declared.sector.Sector.{Sector}
use Rattle.snapshot_chain.specs.Page128.{sector_at}
use Rattle.snapshot_chain.proofs.Masks.{built_some, built_none, built_empty, copied_or}
use Rattle.snapshot_chain.proofs.page128.Page128.joined.Goals as goal
use Rattle.snapshot_chain.proofs.page128.Page128.joined.Goals.{in-Some+in_ok-page, in_default}

pub loop-offset-init : goal.loop-offset-init
loop-offset-init c = rw c.empty-page.ensures (built_empty _)

pub loop-offset-preserved : goal.loop-offset-preserved
loop-offset-preserved c =
    let f : ℕ → Option Sector =
    λ k. option_or (sector_at c.args.upper.now k) (sector_at c.args.lower.now k) in
    let here : option_copied c.or.result ≡ f c.loop-offset.offset =
    ap option_copied c.or.ensures ∙ copied_or c.get.result c.get-in-loop-offset.result
    ∙ rw (c.get.ensures, c.get-in-loop-offset.ensures) refl in
    elim c.match-or.branch [
      | in-Some+in_ok-page w ↦
          rw (w.page-is, w.in_ok-page.ensures)
          (built_some c.loop-offset.page c.loop-offset.offset w.in-Some.sector.now f
          c.loop-offset-test.true c.loop-offset.invariant
          (sym here ∙ ap option_copied w.in-Some.is))
      | in_default w ↦ rw w.page-is
          (built_none c.loop-offset.page c.loop-offset.offset f c.loop-offset.invariant
          (sym here ∙ ap option_copied w.in_default.is))
    ]

pub overflow_cast-room : goal.overflow_cast-room
overflow_cast-room c =
    omega (
      arith,
      ones-le 128 (bit_or c.mask.result c.mask-2.result)
          (or_lt 128 c.mask.result c.mask-2.result c.mask.type_inv c.mask-2.type_inv),
    )
