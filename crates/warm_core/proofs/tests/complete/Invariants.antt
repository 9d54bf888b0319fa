use Rattle.warm_core.specs.DiskWorld.{StandsSound}
use Rattle.warm_core.proofs.tests.complete.Given as goal

-- the world stays sound
abbrev pub invariant-loop : goal.invariant-loop
invariant-loop g l = StandsSound l.world
