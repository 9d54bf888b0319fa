-- The snapshot's layer goes into the next one.
use Rattle.std.proofs.Common.{◌≡◌, ℕ, ◌+◌, ◌<◌, List, length, nat_eq, Some, is_some, sym, ap, ◌∙◌, arith}
use Rattle.std.specs.List.{position}
use Rattle.std.proofs.lemmas.List.Edits.{length-remove}
use Rattle.snapshot_chain.specs.Fields.{room_id}
use Rattle.snapshot_chain.proofs.States.{at_position, live_in}
use Rattle.snapshot_chain.proofs.Keeping.{ids-remove}
use Rattle.snapshot_chain.proofs.LayerSteps.{merged_long, merged_within, merged_holds}
use Rattle.snapshot_chain.proofs.chain.Chain.join_layer.Goals as goal

pub invariant_of-self-2 : goal.invariant_of-self-2
invariant_of-self-2 c =
    let at : position (nat_eq c.args.id) c.self.inside.ids.items
    ≡ Some c.in-Some-position_of.index =
    rw c.as_slice.ensures.value at (sym c.position_of.ensures ∙ c.in-Some-position_of.is) in
    let inside : c.in-Some-position_of.index < length c.self.inside.ids.items =
    (at_position c.args.id c.self.inside.ids.items c.in-Some-position_of.index at).1 in
    let layers : length c.merge_down.new.layers.items + 1 ≡ length c.self.inside.layers.items =
    merged_long c.in-Some-position_of.index c.self.inside.layers.items c.merge_down.new.layers.items
    c.merge_down.ensures.merged (omega (arith, inside, c.self.invariant.long)) in
    let ids : length c.remove.new.self.items + 1 ≡ length c.self.inside.ids.items =
    ap (λ (xs : List ℕ). length xs + 1) c.remove.ensures.items
    ∙ length-remove c.self.inside.ids.items c.in-Some-position_of.index inside in
    rw c.take.ensures.after
    (record {
      long = omega (arith, layers, ids, c.self.invariant.long);
      distinct = rw c.remove.ensures.items
          (ids-remove c.self.inside.free_from c.self.inside.ids.items c.in-Some-position_of.index
          c.self.invariant.distinct);
      within = merged_within c.self.inside.capacity c.in-Some-position_of.index
          c.self.inside.layers.items c.merge_down.new.layers.items c.merge_down.ensures.merged
          (omega (arith, inside, c.self.invariant.long)) c.self.invariant.within;
      can_freeze = λ full. (
        omega (
          arith,
          (c.self.invariant.can_freeze full).0,
          c.remove.ensures.capacity,
          ids,
          c.remove.new.self.ok.0,
          c.self.inside.ids.ok.0,
        ),
        omega (
          arith,
          (c.self.invariant.can_freeze full).1,
          c.merge_down.ensures.capacity,
          layers,
          c.merge_down.new.layers.ok.0,
          c.self.inside.layers.ok.0,
        ),
      );
      can_merge = tt;
    })

pub returns-clause-live : goal.returns-clause-live
returns-clause-live c =
    let at : position (nat_eq c.args.id) c.self.inside.ids.items
    ≡ Some c.in-Some-position_of.index =
    rw c.as_slice.ensures.value at (sym c.position_of.ensures ∙ c.in-Some-position_of.is) in
    rw (← c.self.view_is)
    (live_in c.self.inside.capacity c.args.id c.self.inside.ids.items c.self.inside.layers.items
    c.self.invariant.long ∙ ap is_some at)

pub returns-clause-merged : goal.returns-clause-merged
returns-clause-merged c =
    let at : position (nat_eq c.args.id) c.self.inside.ids.items
    ≡ Some c.in-Some-position_of.index =
    rw c.as_slice.ensures.value at (sym c.position_of.ensures ∙ c.in-Some-position_of.is) in
    rw (c.take.ensures.after, c.remove.ensures.items, ← c.self.view_is)
    (merged_holds c.self.inside.capacity c.self.inside.free_from c.self.inside.ids.items
    c.self.inside.free_from c.self.inside.freeze_room (room_id c.self.inside.merge_room)
    c.args.id c.in-Some-position_of.index
    c.self.inside.layers.items c.merge_down.new.layers.items c.merge_down.ensures.merged
    c.self.invariant.long c.self.invariant.distinct at)
