-- What the layers that are seen hold.
use Rattle.std.proofs.Common.{◌≡◌, ◌+◌, ◌*◌, ◌≤◌, List, length, take, Some, None, sym, ap, ◌∙◌, [], arith, length-take}
use Rattle.std.proofs.lemmas.Nat.{mul-le}
use Rattle.std.specs.Option.{option_map}
use Rattle.snapshot_chain.specs.Fields.{room_id}
use Rattle.snapshot_chain.specs.Layer.{LayerState}
use Rattle.snapshot_chain.specs.Layers.{contents_in, sector_found}
use Rattle.snapshot_chain.specs.Chain.{contents_of}
use Rattle.snapshot_chain.specs.Reading.{layers_seen, blocks_met}
use Rattle.snapshot_chain.proofs.States.{contents_seen, seen_few, snapshots_long, read_part}
use Rattle.snapshot_chain.proofs.LayerSteps.{fits, read_unknown, read_outside, read_taken}
use Rattle.std.proofs.lemmas.List.{length-map}
use Rattle.snapshot_chain.specs.Chain.{Snapshot}
use Rattle.snapshot_chain.specs.History.{live_snapshots}
use Rattle.snapshot_chain.proofs.chain.Chain.read_steps.Goals as goal

pub returns-in_default-clause-refused : goal.returns-in_default-clause-refused
returns-in_default-clause-refused g c =
    let none : layers_seen c.args.id c.self.inside.ids.items ≡ None =
    rw c.as_slice.ensures.value at (sym c.layers_seen.ensures ∙ c.in_default.is) in
    read_unknown (Unit {0}) c.args.self.now c.args.id c.args.first (length c.args.buf.now)
    (rw (← c.self.view_is)
    (contents_seen c.self.inside.capacity c.self.inside.layers.items c.self.inside.ids.items
    c.self.inside.free_from c.self.inside.freeze_room (room_id c.self.inside.merge_room)
    c.args.id c.self.invariant.long
    ∙ ap (option_map (λ n. contents_in c.self.inside.capacity (take n c.self.inside.layers.items)))
    none))

pub returns-then-not-is_within-clause-refused : goal.returns-then-not-is_within-clause-refused
returns-then-not-is_within-clause-refused g c =
    let some : layers_seen c.args.id c.self.inside.ids.items ≡ Some c.in-Some.seen =
    rw c.as_slice.ensures.value at (sym c.layers_seen.ensures ∙ c.in-Some.is) in
    read_outside (Unit {0}) c.args.self.now c.args.id c.args.first (length c.args.buf.now)
    (contents_in c.self.inside.capacity (take c.in-Some.seen c.self.inside.layers.items))
    (rw (← c.self.view_is)
    (contents_seen c.self.inside.capacity c.self.inside.layers.items c.self.inside.ids.items
    c.self.inside.free_from c.self.inside.freeze_room (room_id c.self.inside.merge_room)
    c.args.id c.self.invariant.long
    ∙ ap (option_map (λ n. contents_in c.self.inside.capacity (take n c.self.inside.layers.items)))
    some))
    (sym c.is_within.ensures.within ∙ c.if-not-is_within.true)

pub read_layers-requires : goal.read_layers-requires
read_layers-requires g c = c.if-not-is_within.ensures.fits

pub returns-clause-refused : goal.returns-clause-refused
returns-clause-refused g c =
    let some : layers_seen c.args.id c.self.inside.ids.items ≡ Some c.in-Some.seen =
    rw c.as_slice.ensures.value at (sym c.layers_seen.ensures ∙ c.in-Some.is) in
    read_taken tt c.args.self.now c.args.id c.args.first (length c.args.buf.now)
    (contents_in c.self.inside.capacity (take c.in-Some.seen c.self.inside.layers.items))
    (rw (← c.self.view_is)
    (contents_seen c.self.inside.capacity c.self.inside.layers.items c.self.inside.ids.items
    c.self.inside.free_from c.self.inside.freeze_room (room_id c.self.inside.merge_room)
    c.args.id c.self.invariant.long
    ∙ ap (option_map (λ n. contents_in c.self.inside.capacity (take n c.self.inside.layers.items)))
    some))
    (sym c.is_within.ensures.within ∙ c.if-not-is_within.false)

pub returns-clause-ok : goal.returns-clause-ok
returns-clause-ok g c =
    let some : layers_seen c.args.id c.self.inside.ids.items ≡ Some c.in-Some.seen =
    rw c.as_slice.ensures.value at (sym c.layers_seen.ensures ∙ c.in-Some.is) in
    let inside : c.args.first + length c.args.buf.now ≤ c.self.inside.capacity =
    fits c.self.inside.capacity c.args.first (length c.args.buf.now)
    (rw (← c.self.view_is) at (sym c.is_within.ensures.within ∙ c.if-not-is_within.false)) in
    let seen : contents_of c.args.id c.args.self.now
    ≡ Some (contents_in c.self.inside.capacity (take c.in-Some.seen c.self.inside.layers.items))
    =
    rw (← c.self.view_is)
    (contents_seen c.self.inside.capacity c.self.inside.layers.items c.self.inside.ids.items
    c.self.inside.free_from c.self.inside.freeze_room (room_id c.self.inside.merge_room)
    c.args.id c.self.invariant.long
    ∙ ap (option_map (λ n. contents_in c.self.inside.capacity (take n c.self.inside.layers.items)))
    some) in
    rw seen
    (read_part (sector_found (take c.in-Some.seen c.self.inside.layers.items))
    c.self.inside.capacity c.args.first c.read_layers.new.buf c.args.buf.now
    c.read_layers.auto.buf inside
    (λ k less. c.read_layers.ensures.sectors k less
    ∙ ap (λ (ls : List LayerState). Some
    (sector_found (take c.in-Some.seen ls) (c.args.first + k))) c.deref.ensures.value))

pub returns-clause-cost : goal.returns-clause-cost
returns-clause-cost g c =
    let some : layers_seen c.args.id c.self.inside.ids.items ≡ Some c.in-Some.seen =
    rw c.as_slice.ensures.value at (sym c.layers_seen.ensures ∙ c.in-Some.is) in
    let few : c.in-Some.seen ≤ length c.self.inside.ids.items + 1 =
    seen_few c.args.id c.self.inside.ids.items c.in-Some.seen some in
    let all : length c.args.self.now.snapshots ≡ length c.self.inside.ids.items =
    rw (← c.self.view_is)
    (snapshots_long c.self.inside.capacity [] c.self.inside.ids.items c.self.inside.layers.items
    c.self.invariant.long) in
    let more : length (take c.in-Some.seen c.deref.result.now) * blocks_met c.args.first
    (length c.args.buf.now) ≤ (length c.args.self.now.snapshots + 1) * blocks_met c.args.first
    (length c.args.buf.now) =
    mul-le (length (take c.in-Some.seen c.deref.result.now))
    (blocks_met c.args.first (length c.args.buf.now)) (length c.args.self.now.snapshots + 1)
    (blocks_met c.args.first (length c.args.buf.now))
    (omega (arith, few, all, length-take c.in-Some.seen c.deref.result.now)) (omega arith) in
    omega (arith, more, c.read_layers.ensures.cost)

pub returns-clause-live_cost : goal.returns-clause-live_cost
returns-clause-live_cost g c = λ history stands.
    let count : length c.args.self.now.snapshots ≡ length (live_snapshots history) =
    sym (length-map c.args.self.now.snapshots (λ (x : Snapshot). x.id))
    ∙ ap length stands.live in
    rw (← count) (returns-clause-cost g c)
