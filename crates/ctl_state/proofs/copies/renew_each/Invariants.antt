use Rattle.std.proofs.Common.{◌≡◌, ◌++◌, map, take, drop}
use Rattle.ctl_state.specs.Migration.{fresh_copy}
use Rattle.ctl_state.proofs.copies.renew_each.Given as goal

abbrev pub invariant-loop-copy : goal.invariant-loop-copy
invariant-loop-copy l =
    l.copies ≡ map fresh_copy (take l.copy-index l.fn.copies) ++ drop l.copy-index l.fn.copies
