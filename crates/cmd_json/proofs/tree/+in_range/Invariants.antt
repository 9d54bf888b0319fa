use Rattle.std.proofs.Common.{◌≡◌, drop}
use Rattle.json.specs.Value.{items_view, members_view}
use Rattle.cmd_json.specs.Tree.{are_in_range, members_in_range}
use Rattle.cmd_json.proofs.tree.+in_range.Given as goal

-- what was passed is in range, so all depends on the rest
abbrev pub invariant-are_in_range-loop-item : goal.invariant-are_in_range-loop-item
invariant-are_in_range-loop-item l =
    are_in_range (items_view l.item-items)
    ≡ are_in_range (items_view (drop l.item-index l.item-items))

abbrev pub invariant-members_in_range-loop-member : goal.invariant-members_in_range-loop-member
invariant-members_in_range-loop-member l =
    members_in_range (members_view l.member-items)
    ≡ members_in_range (members_view (drop l.member-index l.member-items))
