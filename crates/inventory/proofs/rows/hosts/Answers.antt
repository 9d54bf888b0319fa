use Rattle.std.proofs.Common.{◌≡◌, ◌+◌, ◌<◌, ◌≤◌, List, [], ◌∷◌, ◌++◌, Some, length, slice_get, option_map, ap, ◌∙◌, sym, arith}
use Rattle.std.proofs.lemmas.Option.{slice_get-map, slice_get_within}
use Rattle.fleet.specs.Fleet.{HostState}
use Rattle.inventory.specs.Rows.{host_row, host_rows}
use Rattle.inventory.specs.declared.rows.HostRow.{HostRow}
use Rattle.basics.proofs.ItemAt.{take-next}
use Rattle.inventory.proofs.Listing.{all_taken}
use Rattle.inventory.proofs.rows.hosts.Goals as goal

pub loop-name-preserved : goal.loop-name-preserved
loop-name-preserved c =
    let place = c.loop-name.place in
    let fleet = c.args.fleet.now in
    let host : HostState = record { name = c.in-Some.name.now; limit = c.in-Some.limit } in
    let row : HostRow = record { name = c.in_ok-name.name; limit = c.in-Some.limit } in
    let at : slice_get fleet.hosts place ≡ Some host = sym c.in-Some.ensures.host in
    let row_at : slice_get (host_rows fleet) place ≡ Some row =
    slice_get-map host_row fleet.hosts place ∙ ap (option_map host_row) at
    ∙ ap (λ name. Some (record { name = name; limit = c.in-Some.limit }))
    (sym c.in_ok-name.ensures) in
    record {
      rows = c.in_ok-push.ensures.items ∙ ap (λ rows. rows ++ row ∷ []) c.loop-name.invariant.rows
          ∙ sym (take-next (host_rows fleet) place row row_at);
      within = omega (arith, slice_get_within fleet.hosts place host at);
    }

pub returns : goal.returns
returns c = c.from_vec.ensures ∙ c.loop-name.invariant.rows
    ∙ all_taken (host_rows c.args.fleet.now) c.loop-name.place
    (slice_get-map host_row c.args.fleet.now.hosts c.loop-name.place
    ∙ ap (option_map host_row) (sym c.in_default.ensures.host))
