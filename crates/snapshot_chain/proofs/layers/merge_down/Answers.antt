-- The layer that is taken out, and the one that stands at its index then.
use Rattle.std.proofs.Common.{◌≡◌, ◌+◌, List, sym, ◌∙◌, subst}
use Rattle.std.proofs.lemmas.List.{get_or-set_same, set-set}
use Rattle.snapshot_chain.specs.Layer.{LayerState}
use Rattle.snapshot_chain.specs.Layers.{layer_at, MergedAt}
use Rattle.snapshot_chain.proofs.LayerSteps.{lower_is, upper_is, merged_at, rest_long}
use Rattle.snapshot_chain.proofs.layers.merge_down.Goals as goal

pub join-requires : goal.join-requires
join-requires c =
    let upper : c.replace-upper.result ≡ layer_at c.args.layers.now.items (c.args.index + 1) =
    c.replace-upper.ensures.value
    ∙ upper_is c.args.layers.now.items c.remove-lower.new.self.items c.args.index
    c.index_mut.result.now c.requires.within c.remove-lower.ensures.items
    c.index_mut.ensures.value in
    let room : c.index_mut-2.result.now ≡ c.args.room =
    c.index_mut-2.ensures.value
    ∙ get_or-set_same c.remove-lower.new.self.items c.args.index c.replace-upper.new.dest
    c.index_mut-2.result.now
    (rest_long c.args.layers.now.items c.remove-lower.new.self.items c.args.index
    c.requires.within c.remove-lower.ensures.items)
    ∙ c.replace-upper.ensures.after in
    rw (
      lower_is c.args.layers.now.items c.args.index c.remove-lower.result c.requires.within
          c.remove-lower.ensures.value,
      upper,
      room,
    ) c.requires.room

pub returns-clause-merged : goal.returns-clause-merged
returns-clause-merged c =
    let P : List LayerState → Type 0 = λ ls. MergedAt c.args.index c.args.layers.now.items ls in
    subst P (sym (set-set c.remove-lower.new.self.items c.args.index c.replace-upper.new.dest
    c.join.new.self))
    (merged_at c.args.layers.now.items c.remove-lower.new.self.items c.args.index
    c.remove-lower.result c.index_mut.result.now c.join.new.self c.requires.within
    c.remove-lower.ensures.items c.remove-lower.ensures.value c.index_mut.ensures.value
    (rw c.replace-upper.ensures.value at c.join.ensures.merged)
    (rw c.replace-upper.ensures.value at c.join.ensures.within))
