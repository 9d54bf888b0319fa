use Rattle.std.proofs.Common.{◌≡◌, ◌++◌, Ok, All}
use Rattle.std.specs.Vec.Iter.{into_iter_items}
use Rattle.json.specs.Value.{items_view}
use Rattle.cmd_json.specs.Kinds.{each, result_and_then}
use Rattle.cmd_json.specs.Tree.{items_data}
use Rattle.cmd_json.proofs.lists.ListKindKind.read.Given as goal

-- what was said so far and what the rest says is what all say, and what was said is known
abbrev pub invariant-loop-value : goal.invariant-loop-value
invariant-loop-value g l =
    (goal.iterator-loop-value g).can_next l.value-iterator
    × (goal.iterator-loop-value g).is_finite l.value-iterator
    × (result_and_then (λ vs. Ok (l.items.items ++ vs))
    (each (g.K.Kind.says l.self.0) (items_data (items_view (into_iter_items l.value-iterator))))
    ≡ each (g.K.Kind.says l.self.0)
    (items_data (items_view (into_iter_items l.initial.value-iterator))))
    × All (g.K.Kind.known l.self.0) l.items.items
