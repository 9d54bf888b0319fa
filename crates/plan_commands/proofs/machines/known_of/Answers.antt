use Rattle.std.proofs.Common.{◌≡◌, ◌<◌, false, is_some, [], ◌∷◌, ◌++◌, None, length, slice_get, ap, ◌∙◌, sym, arith}
use Rattle.std.proofs.lemmas.Option.{slice_get_within}
use Rattle.basics.proofs.ItemAt.{take-next}
use Rattle.inventory.proofs.Listing.{all_taken, none_there}
use Rattle.plan_commands.specs.Machines.{known_of}
use Rattle.plan_commands.proofs.Known.{none_known_at, known_count}
use Rattle.plan_commands.proofs.machines.known_of.Goals as goal

pub loop-alloc-preserved : goal.loop-alloc-preserved
loop-alloc-preserved c =
    let place = c.loop-alloc.place in
    let fleet = c.args.fleet.now in
    let v = c.args.state.now in
    let fact = c.in_ok-fact.fact in
    let within : place < length (known_of fleet v) =
    slice_get_within (known_of fleet v) place fact c.in_ok-fact.ensures in
    record {
      known = c.in_ok-push.ensures.items
          ∙ ap (λ known. known ++ fact ∷ []) c.loop-alloc.invariant.known
          ∙ sym (take-next (known_of fleet v) place fact c.in_ok-fact.ensures);
      within = omega (arith, within, known_count fleet v);
    }

pub returns : goal.returns
returns c =
    let none : is_some c.vm_at.result ≡ false = sym c.is_some.ensures ∙ c.loop-alloc-test.false in
    let there : slice_get c.args.fleet.now.vms c.loop-alloc.place ≡ None =
    none_there _ _ c.vm_at.result _ none c.vm_at.ensures.vm in
    c.loop-alloc.invariant.known
    ∙ all_taken (known_of c.args.fleet.now c.args.state.now) c.loop-alloc.place
    (none_known_at c.args.fleet.now c.args.state.now c.loop-alloc.place there)
