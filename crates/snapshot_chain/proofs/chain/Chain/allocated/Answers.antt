-- The blocks of the layers that the snapshot sees.
use Rattle.std.proofs.Common.{◌≡◌, ◌+◌, List, take, nat_eq, Some, None, is_some, sym, ap, ◌∙◌}
use Rattle.std.specs.List.{position}
use Rattle.basics.proofs.Each.{each_taken}
use Rattle.basics.proofs.Results.{if_err, free_alone}
use Rattle.sector_model.specs.declared.run.Runs.{Runs}
use Rattle.sector_model.specs.Run.{areas_of}
use Rattle.snapshot_chain.specs.Layer.{LayerState}
use Rattle.snapshot_chain.specs.Layer.{IsWithin}
use Rattle.snapshot_chain.specs.Layers.{blocks_in}
use Rattle.snapshot_chain.specs.Chain.{snapshot_of}
use Rattle.snapshot_chain.specs.declared.chain.ChainRefused.TheVariants.{UnknownSnap, NoMemory}
use Rattle.snapshot_chain.proofs.States.{live_in, snapshot_seen}
use Rattle.snapshot_chain.proofs.Blocks.{begin_below, areas_same}
use Rattle.snapshot_chain.proofs.LayerSteps.{refuse_unknown}
use Rattle.snapshot_chain.proofs.chain.Chain.allocated.Goals as goal

pub from_blocks-requires-clause-begin_below : goal.from_blocks-requires-clause-begin_below
from_blocks-requires-clause-begin_below c =
    rw c.as_slice-2.ensures.value
    (begin_below c.self.inside.capacity (take (c.in-Some.index + 1) c.deref.result.now)
    c.in_ok-blocks.blocks.items
    (rw c.deref.ensures.value
    (each_taken (IsWithin c.self.inside.capacity) (c.in-Some.index + 1) c.self.inside.layers.items
    c.self.invariant.within)) (λ b. c.in_ok-blocks.ensures.members b))

pub returns-in_default-clause-refused : goal.returns-in_default-clause-refused
returns-in_default-clause-refused c =
    let none : position (nat_eq c.args.id) c.self.inside.ids.items ≡ None =
    rw c.as_slice.ensures.value at (sym c.position_of.ensures ∙ c.in_default.is) in
    refuse_unknown Runs (is_some (snapshot_of c.args.id c.args.self.now))
    (rw (← c.self.view_is)
    (live_in c.self.inside.capacity c.args.id c.self.inside.ids.items c.self.inside.layers.items
    c.self.invariant.long ∙ ap is_some none))

pub returns-in_err-blocks-clause-refused : goal.returns-in_err-blocks-clause-refused
returns-in_err-blocks-clause-refused c =
    let at : position (nat_eq c.args.id) c.self.inside.ids.items ≡ Some c.in-Some.index =
    rw c.as_slice.ensures.value at (sym c.position_of.ensures ∙ c.in-Some.is) in
    free_alone UnknownSnap NoMemory (is_some (snapshot_of c.args.id c.args.self.now)) _
    (rw (← c.self.view_is)
    (live_in c.self.inside.capacity c.args.id c.self.inside.ids.items c.self.inside.layers.items
    c.self.invariant.long ∙ ap is_some at))
    (if_err _ c.from_residual.result c.from_residual.ensures.1)

pub returns-in_err-from_blocks-clause-refused : goal.returns-in_err-from_blocks-clause-refused
returns-in_err-from_blocks-clause-refused c =
    let at : position (nat_eq c.args.id) c.self.inside.ids.items ≡ Some c.in-Some.index =
    rw c.as_slice.ensures.value at (sym c.position_of.ensures ∙ c.in-Some.is) in
    free_alone UnknownSnap NoMemory (is_some (snapshot_of c.args.id c.args.self.now)) _
    (rw (← c.self.view_is)
    (live_in c.self.inside.capacity c.args.id c.self.inside.ids.items c.self.inside.layers.items
    c.self.invariant.long ∙ ap is_some at))
    (if_err _ c.from_residual-in_err-from_blocks.result
    c.from_residual-in_err-from_blocks.ensures.1)

pub returns-clause-refused : goal.returns-clause-refused
returns-clause-refused c =
    let at : position (nat_eq c.args.id) c.self.inside.ids.items ≡ Some c.in-Some.index =
    rw c.as_slice.ensures.value at (sym c.position_of.ensures ∙ c.in-Some.is) in
    free_alone UnknownSnap NoMemory (is_some (snapshot_of c.args.id c.args.self.now)) _
    (rw (← c.self.view_is)
    (live_in c.self.inside.capacity c.args.id c.self.inside.ids.items c.self.inside.layers.items
    c.self.invariant.long ∙ ap is_some at)) tt

pub returns-clause-ok : goal.returns-clause-ok
returns-clause-ok c =
    let at : position (nat_eq c.args.id) c.self.inside.ids.items ≡ Some c.in-Some.index =
    rw c.as_slice.ensures.value at (sym c.position_of.ensures ∙ c.in-Some.is) in
    let areas : c.in_ok-from_blocks.field-0
    ≡ areas_of c.self.inside.capacity
    (blocks_in c.self.inside.capacity (take (c.in-Some.index + 1) c.self.inside.layers.items)) =
    c.in_ok-from_blocks.ensures ∙ ap (areas_of c.self.inside.capacity) c.as_slice-2.ensures.value
    ∙ areas_same c.self.inside.capacity (take (c.in-Some.index + 1) c.deref.result.now)
    c.in_ok-blocks.blocks.items (λ b. c.in_ok-blocks.ensures.members b)
    ∙ ap (λ (ls : List LayerState). areas_of c.self.inside.capacity
    (blocks_in c.self.inside.capacity (take (c.in-Some.index + 1) ls))) c.deref.ensures.value in
    rw (← c.self.view_is)
    (rw (snapshot_seen c.self.inside.capacity c.args.id c.self.inside.layers.items
    c.self.inside.ids.items c.in-Some.index c.self.invariant.long at) areas)
