use Rattle.std.proofs.Common.{◌≡◌}
use Rattle.turn_lock.specs.Pass.{IsFreeAt}
use Rattle.turn_lock.proofs.tests.split_and_join.Given as goal

abbrev pub invariant-loop-value : goal.invariant-loop-value
invariant-loop-value g l =
    IsFreeAt l.first l.turn × (l.first.number ≡ 0) × (l.first.out ≡ l.initial.first.out)
