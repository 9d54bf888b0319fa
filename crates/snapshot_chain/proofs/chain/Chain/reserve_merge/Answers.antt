-- The room is made beside the layers; what the chain holds stays.
use Rattle.std.proofs.Common.{◌≡◌, nat_eq, Some, None, Ok, is_some, sym, ap, ◌∙◌}
use Rattle.std.specs.List.{position}
use Rattle.basics.proofs.Results.{if_err, free_alone}
use Rattle.snapshot_chain.specs.Chain.{snapshot_of}
use Rattle.snapshot_chain.specs.declared.chain.ChainRefused.TheVariants.{UnknownSnap, NoMemory}
use Rattle.snapshot_chain.proofs.States.{live_in}
use Rattle.snapshot_chain.proofs.LayerSteps.{refuse_unknown}
use Rattle.snapshot_chain.proofs.chain.Chain.reserve_merge.Goals as goal

pub returns-in_default-clause-refused : goal.returns-in_default-clause-refused
returns-in_default-clause-refused c =
    let none : position (nat_eq c.args.id) c.self.inside.ids.items ≡ None =
    rw c.as_slice.ensures.value at (sym c.position_of.ensures ∙ c.in_default.is) in
    refuse_unknown (Unit {0}) (is_some (snapshot_of c.args.id c.args.self.now))
    (rw (← c.self.view_is)
    (live_in c.self.inside.capacity c.args.id c.self.inside.ids.items c.self.inside.layers.items
    c.self.invariant.long ∙ ap is_some none))

pub returns-clause-refused : goal.returns-clause-refused
returns-clause-refused c =
    let at : position (nat_eq c.args.id) c.self.inside.ids.items ≡ Some c.in-Some.index =
    rw c.as_slice.ensures.value at (sym c.position_of.ensures ∙ c.in-Some.is) in
    free_alone UnknownSnap NoMemory (is_some (snapshot_of c.args.id c.args.self.now)) (Ok tt)
    (rw (← c.self.view_is)
    (live_in c.self.inside.capacity c.args.id c.self.inside.ids.items c.self.inside.layers.items
    c.self.invariant.long ∙ ap is_some at)) tt

pub returns-then-has_merge_room-clause-refused : goal.returns-then-has_merge_room-clause-refused
returns-then-has_merge_room-clause-refused c =
    let at : position (nat_eq c.args.id) c.self.inside.ids.items ≡ Some c.in-Some.index =
    rw c.as_slice.ensures.value at (sym c.position_of.ensures ∙ c.in-Some.is) in
    free_alone UnknownSnap NoMemory (is_some (snapshot_of c.args.id c.args.self.now)) (Ok tt)
    (rw (← c.self.view_is)
    (live_in c.self.inside.capacity c.args.id c.self.inside.ids.items c.self.inside.layers.items
    c.self.invariant.long ∙ ap is_some at)) tt

pub returns-in_err-pages-clause-refused : goal.returns-in_err-pages-clause-refused
returns-in_err-pages-clause-refused c =
    let at : position (nat_eq c.args.id) c.self.inside.ids.items ≡ Some c.in-Some.index =
    rw c.as_slice.ensures.value at (sym c.position_of.ensures ∙ c.in-Some.is) in
    free_alone UnknownSnap NoMemory (is_some (snapshot_of c.args.id c.args.self.now))
    c.from_residual.result
    (rw (← c.self.view_is)
    (live_in c.self.inside.capacity c.args.id c.self.inside.ids.items c.self.inside.layers.items
    c.self.invariant.long ∙ ap is_some at))
    (if_err _ c.from_residual.result c.from_residual.ensures.1)
