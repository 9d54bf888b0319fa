use Rattle.std.proofs.Common.{◌≡◌}
use Rattle.turn_lock.specs.Pass.{IsFreeAt}
use Rattle.turn_lock.proofs.tests.add_to_both.Given as goal

abbrev pub invariant-loop-value : goal.invariant-loop-value
invariant-loop-value g l = IsFreeAt l.pass l.turn × (l.pass.number ≡ l.initial.pass.number)
    × (l.pass.out ≡ l.initial.pass.out)
