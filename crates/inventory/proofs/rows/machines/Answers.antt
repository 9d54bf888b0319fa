use Rattle.std.proofs.Common.{◌≡◌, ◌<◌, false, is_some, List, ℕ, [], ◌∷◌, ◌++◌, None, length, slice_get, option_map, ap, ◌∙◌, sym, arith}
use Rattle.std.proofs.lemmas.Option.{slice_get_within}
use Rattle.inventory.specs.Rows.{vm_rows}
use Rattle.basics.proofs.ItemAt.{take-next}
use Rattle.inventory.proofs.Listing.{all_taken, none_there, no_row_at, row_count}
use Rattle.inventory.proofs.rows.machines.Goals as goal

pub loop-alloc-preserved : goal.loop-alloc-preserved
loop-alloc-preserved c =
    let place = c.loop-alloc.place in
    let fleet = c.args.fleet.now in
    let row = c.in_ok-row.row in
    let within : place < length (vm_rows fleet) =
    slice_get_within (vm_rows fleet) place row c.in_ok-row.ensures in
    record {
      rows = c.in_ok-push.ensures.items ∙ ap (λ rows. rows ++ row ∷ []) c.loop-alloc.invariant.rows
          ∙ sym (take-next (vm_rows fleet) place row c.in_ok-row.ensures);
      within = omega (arith, within, row_count fleet);
    }

pub returns : goal.returns
returns c =
    let none : is_some c.vm_at.result ≡ false = sym c.is_some.ensures ∙ c.loop-alloc-test.false in
    let there : slice_get c.args.fleet.now.vms c.loop-alloc.place ≡ None =
    none_there _ _ c.vm_at.result _ none c.vm_at.ensures.vm in
    c.from_vec.ensures ∙ c.loop-alloc.invariant.rows
    ∙ all_taken (vm_rows c.args.fleet.now) c.loop-alloc.place
    (no_row_at c.args.fleet.now c.loop-alloc.place there)
