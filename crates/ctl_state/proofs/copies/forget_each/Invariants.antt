use Rattle.std.proofs.Common.{◌≡◌, ◌++◌, map, take, drop}
use Rattle.ctl_state.specs.Migration.{unnamed_copy}
use Rattle.ctl_state.proofs.copies.forget_each.Given as goal

abbrev pub invariant-loop-copy : goal.invariant-loop-copy
invariant-loop-copy l =
    l.copies ≡ map unnamed_copy (take l.copy-index l.fn.copies) ++ drop l.copy-index l.fn.copies
