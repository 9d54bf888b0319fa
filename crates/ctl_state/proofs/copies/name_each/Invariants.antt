use Rattle.std.proofs.Common.{◌≡◌, ◌++◌, length, take, drop}
use Rattle.ctl_state.specs.Migration.{named_copies}
use Rattle.ctl_state.proofs.copies.name_each.Given as goal

-- what is behind the index is named as the rest of the list would be
abbrev pub invariant-loop-i : goal.invariant-loop-i
invariant-loop-i l = (take l.i l.copies ++ named_copies (drop l.i l.copies) (drop l.i l.ids)
    ≡ named_copies l.fn.copies l.ids)
    × (length l.copies ≡ length l.fn.copies)
