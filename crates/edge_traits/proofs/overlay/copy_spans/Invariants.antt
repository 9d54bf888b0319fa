use Rattle.std.proofs.Common.{◌≡◌, ℕ, ◌<◌, length, get_or, take, if◌then◌else◌}
use Rattle.std.specs.List.{list_any}
use Rattle.edge_traits.specs.Disk.{covers}
use Rattle.edge_traits.proofs.overlay.copy_spans.Given as goal

abbrev pub invariant-loop-span : goal.invariant-loop-span
invariant-loop-span l = (offset : ℕ) → offset < length l.from → get_or l.to offset 0
    ≡ (if list_any (covers offset) (take l.span-index l.spans)
    then get_or l.from offset 0 else get_or l.initial.to offset 0)
