use Rattle.std.proofs.Common.{◌≡◌, ◌≤◌, length, take}
use Rattle.json.specs.Find.{get_member}
use Rattle.json.specs.Value.{members_view}
use Rattle.cmd_json.proofs.members.last_named.Given as goal

-- the name isn't among those that were passed, so what is found is found in front of them
abbrev pub invariant-loop-left : goal.invariant-loop-left
invariant-loop-left l =
    (get_member l.name (members_view l.list.items)
    ≡ get_member l.name (members_view (take l.left l.list.items)))
    × (l.left ≤ length l.list.items)

abbrev pub decreases-loop-left : goal.decreases-loop-left
decreases-loop-left l = l.left
