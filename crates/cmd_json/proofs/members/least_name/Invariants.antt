use Rattle.std.proofs.Common.{◌≡◌, drop, option_map}
use Rattle.json.specs.Value.{members_view}
use Rattle.cmd_json.specs.Left.{object_of, first_name}
use Rattle.cmd_json.proofs.MemberLemmas.{least_after}
use Rattle.cmd_json.proofs.members.least_name.Given as goal

-- the least name is that of those that were passed, or one of the rest
abbrev pub invariant-loop-member : goal.invariant-loop-member
invariant-loop-member l =
    first_name (object_of l.member-items)
    ≡ least_after (members_view (drop l.member-index l.member-items))
    (option_map (λ name. name.now) l.least)
