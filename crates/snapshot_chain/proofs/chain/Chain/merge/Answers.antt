-- With the room or without, the same snapshots.
use Rattle.std.proofs.Common.{◌≡◌, Ok, is_some, true, sym, subst}
use Rattle.basics.proofs.Results.{free_alone}
use Rattle.snapshot_chain.specs.Chain.{ChainState, snapshot_of, after_merging}
use Rattle.snapshot_chain.specs.History.{Takes, Merged}
use Rattle.snapshot_chain.specs.declared.chain.ChainRefused.TheVariants.{UnknownSnap, NoMemory}
use Rattle.snapshot_chain.proofs.Histories.{stands_merged}
use Rattle.snapshot_chain.proofs.chain.Chain.merge.Goals as goal
use Rattle.snapshot_chain.proofs.chain.Chain.merge.Goals.{then-not-has_merge_room+in_ok-reserve_merge, else-not-has_merge_room}

pub returns-clause-refused : goal.returns-clause-refused
returns-clause-refused c =
    let live : is_some (snapshot_of c.args.id c.args.self.now) ≡ true =
    elim c.if-not-has_merge_room.branch [
      | then-not-has_merge_room+in_ok-reserve_merge w ↦ rw
          (w.self-is, w.in_ok-reserve_merge.ensures.ok) at c.join_layer.ensures.live
      | else-not-has_merge_room w ↦ rw w.self-is at c.join_layer.ensures.live
    ] in
    free_alone UnknownSnap NoMemory (is_some (snapshot_of c.args.id c.args.self.now)) (Ok tt)
    live tt

pub returns-clause-stands : goal.returns-clause-stands
returns-clause-stands c =
    let after : c.join_layer.new.self ≡ after_merging c.args.id c.args.self.now =
    elim c.if-not-has_merge_room.branch [
      | then-not-has_merge_room+in_ok-reserve_merge w ↦ rw
          (w.self-is, w.in_ok-reserve_merge.ensures.ok) at c.join_layer.ensures.merged
      | else-not-has_merge_room w ↦ rw w.self-is at c.join_layer.ensures.merged
    ] in
    let P : ChainState → Type 0 = λ new. Takes (Merged c.args.id) c.args.self.now new in
    subst P (sym after) (stands_merged c.args.id c.args.self.now)
