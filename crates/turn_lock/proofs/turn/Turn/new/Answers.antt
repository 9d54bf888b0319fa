use Rattle.std.proofs.Common.{sym, ap, ◌∙◌, subst, ◌∷◌, [], Some}
use Rattle.atomic_table.specs.Table.{opening}
use Rattle.turn_lock.specs.Rule.{RuleHolds, beginning_of, first_view}
use Rattle.turn_lock.proofs.Ends.{opens}
use Rattle.turn_lock.proofs.turn.Turn.new.Goals as goal

pub new-requires : goal.new-requires
new-requires g c =
    let s = g.V.Storied in
    let x = c.of-beginning.result.value in
    let slots = c.in-Ok.ensures.slot ∙ ap (λ y. Some y ∷ []) (sym c.of-beginning.ensures) in
    subst (λ xs. RuleHolds s.frame s.story s.who (beginning_of s.frame s.story x)
    (opening (1 ∷ 0 ∷ 0 ∷ []) xs (first_view s.frame s.story x))) (sym slots)
    (opens s.frame s.story s.who x)
