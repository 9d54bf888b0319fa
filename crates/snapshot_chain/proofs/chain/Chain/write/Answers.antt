-- Only the newest layer changes.
use Rattle.std.proofs.Common.{◌≡◌, ℕ, None, ◌+◌, ◌<◌, ◌≤◌, length, sym, ◌∙◌, subst, arith, length-set}
use Rattle.snapshot_chain.specs.Fields.{room_id}
use Rattle.snapshot_chain.specs.Layer.{IsWithin}
use Rattle.snapshot_chain.specs.Layers.{layer_at}
use Rattle.snapshot_chain.specs.Chain.{ChainState}
use Rattle.snapshot_chain.specs.History.{Takes, Written}
use Rattle.sector_model.specs.Disk.{Write}
use Rattle.snapshot_chain.proofs.States.{written_state, unwritten_state}
use Rattle.snapshot_chain.proofs.Histories.{stands_written}
use Rattle.snapshot_chain.proofs.Keeping.{all-set, all-at, no_memory}
use Rattle.snapshot_chain.proofs.LayerSteps.{fits, element}
use Rattle.snapshot_chain.proofs.chain.Chain.write.Goals as goal

pub invariant_of-self : goal.invariant_of-self
invariant_of-self c =
    let cap : ℕ = c.self.inside.capacity in
    let at : c.len-newest.result ≡ length c.self.inside.ids.items =
    c.len-newest.ensures ∙ c.self.inside.ids.ok.0 in
    let inside : c.args.first + length c.args.sectors.now ≤ cap =
    fits cap c.args.first (length c.args.sectors.now)
    (rw (← c.self.view_is) at (sym c.if-not-is_within.ensures.within)) in
    let less : c.len-newest.result < length c.self.inside.layers.items =
    omega (arith, at, c.self.invariant.long) in
    record {
      long = length-set c.self.inside.layers.items c.len-newest.result c.write.new.self
          ∙ c.self.invariant.long;
      distinct = c.self.invariant.distinct;
      within = all-set (IsWithin cap) c.self.inside.layers.items c.len-newest.result
          c.write.new.self c.self.invariant.within
          (c.in_err-write.ensures.within cap inside
          (rw c.index_mut-layer.ensures.value
          (all-at (IsWithin cap) c.self.inside.layers.items c.len-newest.result
          c.index_mut-layer.result.now c.self.invariant.within less)));
      can_freeze = c.self.invariant.can_freeze;
      can_merge = tt;
    }

pub invariant_of-self-2 : goal.invariant_of-self-2
invariant_of-self-2 c =
    let cap : ℕ = c.self.inside.capacity in
    let at : c.len-newest.result ≡ length c.self.inside.ids.items =
    c.len-newest.ensures ∙ c.self.inside.ids.ok.0 in
    let inside : c.args.first + length c.args.sectors.now ≤ cap =
    fits cap c.args.first (length c.args.sectors.now)
    (rw (← c.self.view_is) at (sym c.if-not-is_within.ensures.within)) in
    let less : c.len-newest.result < length c.self.inside.layers.items =
    omega (arith, at, c.self.invariant.long) in
    record {
      long = length-set c.self.inside.layers.items c.len-newest.result c.write.new.self
          ∙ c.self.invariant.long;
      distinct = c.self.invariant.distinct;
      within = all-set (IsWithin cap) c.self.inside.layers.items c.len-newest.result
          c.write.new.self c.self.invariant.within
          (c.in_ok-write.ensures.within cap inside
          (rw c.index_mut-layer.ensures.value
          (all-at (IsWithin cap) c.self.inside.layers.items c.len-newest.result
          c.index_mut-layer.result.now c.self.invariant.within less)));
      can_freeze = c.self.invariant.can_freeze;
      can_merge = tt;
    }

pub returns-in_err-write-clause-err : goal.returns-in_err-write-clause-err
returns-in_err-write-clause-err c =
    let at : c.len-newest.result ≡ length c.self.inside.ids.items =
    c.len-newest.ensures ∙ c.self.inside.ids.ok.0 in
    let newest : c.index_mut-layer.result.now
    ≡ layer_at c.self.inside.layers.items (length c.self.inside.ids.items) =
    element c.self.inside.layers.items c.len-newest.result (length c.self.inside.ids.items)
    c.index_mut-layer.result.now at (omega (arith, c.self.invariant.long))
    c.index_mut-layer.ensures.value in
    no_memory c.from_residual.result _ _ c.from_residual.ensures.1
    (rw (at, ← c.self.view_is)
    (unwritten_state c.self.inside.capacity c.self.inside.layers.items c.self.inside.ids.items
    c.self.inside.free_from c.self.inside.freeze_room None c.write.new.self
    c.self.invariant.long (rw (← newest) c.in_err-write.ensures.err)))

pub returns-clause-ok : goal.returns-clause-ok
returns-clause-ok c =
    let cap : ℕ = c.self.inside.capacity in
    let at : c.len-newest.result ≡ length c.self.inside.ids.items =
    c.len-newest.ensures ∙ c.self.inside.ids.ok.0 in
    let inside : c.args.first + length c.args.sectors.now ≤ cap =
    fits cap c.args.first (length c.args.sectors.now)
    (rw (← c.self.view_is) at (sym c.if-not-is_within.ensures.within)) in
    let newest : c.index_mut-layer.result.now
    ≡ layer_at c.self.inside.layers.items (length c.self.inside.ids.items) =
    element c.self.inside.layers.items c.len-newest.result (length c.self.inside.ids.items)
    c.index_mut-layer.result.now at (omega (arith, c.self.invariant.long))
    c.index_mut-layer.ensures.value in
    rw (at, ← c.self.view_is)
    (written_state cap c.self.inside.layers.items c.self.inside.ids.items c.self.inside.free_from
    c.self.inside.freeze_room (room_id c.self.inside.merge_room) c.args.first c.args.sectors.now
    c.write.new.self
    c.self.invariant.long inside (rw (← newest) c.in_ok-write.ensures.ok))

pub returns-clause-stands : goal.returns-clause-stands
returns-clause-stands c =
    let w : Write = record { first = c.args.first; sectors = c.args.sectors.now } in
    let P : ChainState → Type 0 = λ new. Takes (Written w) c.args.self.now new in
    subst P (sym (returns-clause-ok c)) (stands_written w c.args.self.now)
