use Rattle.std.proofs.Common.{refl, ap, ◌∙◌}
use Rattle.log_model.specs.declared.link.Facts.{Facts}
use Rattle.inventory.proofs.Listing.{row_is}
use Rattle.inventory.proofs.rows.row_of.Goals as goal

pub returns : goal.returns
returns c =
    let pair = rw c.unwrap-host.ensures at c.vm_at.ensures.vm in
    let host = rw c.unwrap.ensures at c.host_at.ensures.host in
    let machine = rw c.unwrap-machine.ensures at c.machine.ensures in
    row_is c.args.fleet.now c.args.place c.requires.place c.requires.all_in _ _ pair _ host
    c.unwrap-machine.result.now machine _ c.in_ok-of.ensures refl c.in_ok-of-2.ensures
    c.in_ok-capacities_of.ensures (ap (λ (f : Facts). f.on) c.look-facts.ensures.facts)
    (ap (λ (f : Facts). f.tracking) c.look-facts.ensures.facts)
