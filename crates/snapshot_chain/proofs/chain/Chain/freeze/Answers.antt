-- With the room or without, the same contents are frozen.
use Rattle.std.proofs.Common.{◌≡◌, sym, subst}
use Rattle.snapshot_chain.specs.Chain.{ChainState, after_freezing}
use Rattle.snapshot_chain.specs.History.{Takes, Frozen}
use Rattle.snapshot_chain.proofs.Histories.{stands_frozen}
use Rattle.snapshot_chain.proofs.chain.Chain.freeze.Goals as goal
use Rattle.snapshot_chain.proofs.chain.Chain.freeze.Goals.{then-not-self+in_ok-reserve_freeze, else-not-self}

pub returns-clause-stands : goal.returns-clause-stands
returns-clause-stands c =
    let after : c.add_layer.new.self ≡ after_freezing c.args.id c.args.self.now =
    elim c.if-not-self.branch [
      | then-not-self+in_ok-reserve_freeze w ↦ rw (w.self-is, w.in_ok-reserve_freeze.ensures.ok) at
          c.add_layer.ensures
      | else-not-self w ↦ rw w.self-is at c.add_layer.ensures
    ] in
    let P : ChainState → Type 0 = λ new. Takes (Frozen c.args.id) c.args.self.now new in
    subst P (sym after) (λ history stands. stands_frozen c.args.id c.args.self.now history stands
    c.requires)
