use Rattle.std.proofs.Common.{List, [], ◌∷◌, ◌++◌, map, ap, sym, ◌∙◌, append_assoc}
use Rattle.std.proofs.lemmas.List.{map_push}
use Rattle.inventory.specs.declared.rows.VmRow.{VmRow}
use Rattle.fleet_commands.specs.commands.Inventory.{vm_line}
use Rattle.fleet_commands.proofs.listing.vm_lines.Goals as goal

pub loop-row-preserved : goal.loop-row-preserved
loop-row-preserved c =
    let seen : List VmRow = c.loop-row.yielded in
    let row : VmRow = c.in-Some.row in
    record {
      lines = c.in_ok-push.ensures.items
          ∙ ap (λ xs. xs ++ c.vm_line.result ∷ []) c.loop-row.invariant.lines
          ∙ ap (λ x. map vm_line seen ++ x ∷ []) c.vm_line.ensures
          ∙ sym (map_push vm_line seen row);
      left = append_assoc seen (row ∷ []) c.next.new.self.rest.items
          ∙ ap (λ (xs : List VmRow). seen ++ xs) (sym c.in-Some.ensures.steps.0)
          ∙ c.loop-row.invariant.left;
    }
