use Rattle.std.proofs.Common.{◌≡◌, ◌+◌, ◌-◌, map}
use Rattle.std.specs.List.{range_with_len}
use Rattle.log_model.specs.PlainMachine.{sector_at}
use Rattle.warm_core.proofs.effects.read_frozen.Given as goal

-- the sectors so far
abbrev pub invariant-loop-at : goal.invariant-loop-at
invariant-loop-at l =
    l.sectors.items ≡ map (λ i. sector_at l.world.disk (l.fn.run.first + i) l.frozen)
    (range_with_len 0 (l.at - l.fn.run.first))
