use Rattle.std.proofs.Common.{◌++◌, ◌∷◌, [], ap, sym, ◌∙◌, map, take}
use Rattle.std.proofs.lemmas.List.{map_more}
use Rattle.plan_commands.specs.commands.Status.{migration_line}
use Rattle.plan_commands.proofs.status.status_of.Goals as goal

pub loop-migration-preserved : goal.loop-migration-preserved
loop-migration-preserved c =
    let line = migration_line c.args.fleet.now c.args.state.now in
    let all = c.migrations-migration-items.result.now in
    let index = c.loop-migration.migration-index in
    let before = map line (take index all) in
    let migration = c.migration-item.result in
    c.in_ok-push.ensures.items
    ∙ ap (λ lines. lines ++ c.in_ok-line.line ∷ []) c.loop-migration.invariant
    ∙ ap (λ x. before ++ x ∷ []) (c.in_ok-line.ensures ∙ ap line c.migration-item.is)
    ∙ sym (map_more line all index migration c.loop-migration-test.true)
