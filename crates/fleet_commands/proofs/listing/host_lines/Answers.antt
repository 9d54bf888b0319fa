use Rattle.std.proofs.Common.{List, [], ◌∷◌, ◌++◌, map, ap, sym, ◌∙◌, append_assoc}
use Rattle.std.proofs.lemmas.List.{map_push}
use Rattle.inventory.specs.declared.rows.HostRow.{HostRow}
use Rattle.fleet_commands.specs.commands.Inventory.{host_line}
use Rattle.fleet_commands.proofs.listing.host_lines.Goals as goal

pub loop-row-preserved : goal.loop-row-preserved
loop-row-preserved c =
    let seen : List HostRow = c.loop-row.yielded in
    let row : HostRow = c.in-Some.row in
    record {
      lines = c.in_ok-push.ensures.items
          ∙ ap (λ xs. xs ++ c.host_line.result ∷ []) c.loop-row.invariant.lines
          ∙ ap (λ x. map host_line seen ++ x ∷ []) c.host_line.ensures
          ∙ sym (map_push host_line seen row);
      left = append_assoc seen (row ∷ []) c.next.new.self.rest.items
          ∙ ap (λ (xs : List HostRow). seen ++ xs) (sym c.in-Some.ensures.steps.0)
          ∙ c.loop-row.invariant.left;
    }
