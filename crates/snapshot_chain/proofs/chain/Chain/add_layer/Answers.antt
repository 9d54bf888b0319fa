-- An empty layer above the others leaves what they hold.
use Rattle.std.proofs.Common.{◌≡◌, ◌∷◌, [], ◌++◌, arith, length-append, ◌≤◌}
use Rattle.std.proofs.lemmas.Bool.{false≢true}
use Rattle.basics.proofs.Each.{each_pushed}
use Rattle.snapshot_chain.specs.Fields.{room_id}
use Rattle.snapshot_chain.specs.Layer.{IsWithin}
use Rattle.snapshot_chain.proofs.States.{frozen_state}
use Rattle.snapshot_chain.proofs.Keeping.{ids-push}
use Rattle.snapshot_chain.proofs.chain.Chain.add_layer.Goals as goal

pub invariant_of-self : goal.invariant_of-self
invariant_of-self c =
    let ids : c.push.new.self.items ≡ c.self.inside.ids.items ++ c.args.id ∷ [] =
    rw c.unwrap.ensures at c.push.ensures.items in
    let layers : c.push-2.new.self.items ≡ c.self.inside.layers.items ++ [] ∷ [] =
    rw (c.unwrap-2.ensures, c.new.ensures) at c.push-2.ensures.items in
    let free : c.self.inside.free_from ≤ c.args.id = rw (← c.self.view_is) at c.requires.free in
    record {
      long = rw (ids, layers)
          (omega (
            arith,
            c.self.invariant.long,
            length-append c.self.inside.ids.items
                (c.args.id ∷ []),
            length-append c.self.inside.layers.items ([] ∷ []),
          ));
      distinct = rw (ids, c.from.ensures)
          (ids-push c.self.inside.free_from c.args.id c.self.inside.ids.items free
          c.self.invariant.distinct);
      within = rw layers (each_pushed
          (IsWithin c.self.inside.capacity) c.self.inside.layers.items []
          c.self.invariant.within (λ block some. absurd (false≢true some)));
      can_freeze = λ full. absurd (false≢true full);
      can_merge = tt;
    }

pub returns : goal.returns
returns c =
    let ids : c.push.new.self.items ≡ c.self.inside.ids.items ++ c.args.id ∷ [] =
    rw c.unwrap.ensures at c.push.ensures.items in
    let layers : c.push-2.new.self.items ≡ c.self.inside.layers.items ++ [] ∷ [] =
    rw (c.unwrap-2.ensures, c.new.ensures) at c.push-2.ensures.items in
    rw (ids, layers, c.from.ensures, ← c.self.view_is)
    (frozen_state c.self.inside.capacity c.self.inside.layers.items c.self.inside.ids.items
    c.self.inside.free_from c.self.inside.freeze_room (room_id c.self.inside.merge_room)
    c.args.id c.self.invariant.long)
