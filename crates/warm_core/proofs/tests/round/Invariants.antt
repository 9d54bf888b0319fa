use Rattle.warm_core.specs.DiskWorld.{StandsSound}
use Rattle.warm_core.proofs.tests.round.Given as goal

-- the world stays sound
abbrev pub invariant-loop-number : goal.invariant-loop-number
invariant-loop-number l = StandsSound l.world
