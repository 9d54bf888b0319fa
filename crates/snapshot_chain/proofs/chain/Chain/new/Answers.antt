-- One empty layer holds nothing.
use Rattle.std.proofs.Common.{◌≡◌, [], ◌∷◌, refl}
use Rattle.snapshot_chain.proofs.States.{fresh_state}
use Rattle.snapshot_chain.proofs.Histories.{stands_fresh}
use Rattle.snapshot_chain.proofs.chain.Chain.new.Goals as goal

pub returns : goal.returns
returns c =
    let layers : c.push.new.self.items ≡ [] ∷ [] =
    rw (c.in_ok-layers.ensures.items, c.new.ensures) at c.in_ok-push.ensures.items in
    rw (layers, c.new-2.ensures.items, fresh_state c.args.capacity)
    (record { fresh = refl; stands = stands_fresh c.args.capacity })
