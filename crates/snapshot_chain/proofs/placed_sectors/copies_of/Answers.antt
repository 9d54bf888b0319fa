-- One copy more.
use Rattle.std.proofs.Common.{◌∷◌, ◌++◌, [], sym, ap, ◌∙◌}
use Rattle.std.proofs.lemmas.List.{get_or_default}
use Rattle.basics.proofs.ItemAt.{take-next_read}
use Rattle.snapshot_chain.proofs.placed_sectors.copies_of.Goals as goal

pub loop-sector-preserved : goal.loop-sector-preserved
loop-sector-preserved c =
    c.in_ok-push.ensures.items ∙ ap (λ xs. xs ++ c.in_ok-new.field-0 ∷ []) c.loop-sector.invariant
    ∙ sym (take-next_read c.args.sectors.now c.loop-sector.sector-index c.in_ok-new.field-0
    c.loop-sector-test.true
    (c.in_ok-new.ensures
    ∙ get_or_default c.args.sectors.now c.loop-sector.sector-index _ c.in_ok-new.field-0
    c.loop-sector-test.true))
