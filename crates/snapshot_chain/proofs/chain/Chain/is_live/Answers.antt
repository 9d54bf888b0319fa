-- The snapshots are those of the ids.
use Rattle.std.proofs.Common.{sym, ap, ◌∙◌, is_some, nat_eq, ℕ, List}
use Rattle.std.specs.List.{position}
use Rattle.snapshot_chain.proofs.States.{live_in}
use Rattle.snapshot_chain.proofs.chain.Chain.is_live.Goals as goal

pub returns : goal.returns
returns c =
    c.is_some.ensures ∙ ap is_some c.position_of.ensures
    ∙ ap (λ (ids : List ℕ). is_some (position (nat_eq c.args.id) ids)) c.as_slice.ensures.value
    ∙ rw (← c.self.view_is)
    (sym (live_in c.self.inside.capacity c.args.id c.self.inside.ids.items
    c.self.inside.layers.items c.self.invariant.long))
