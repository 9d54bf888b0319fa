use Rattle.warm_core.specs.DiskWorld.{StandsSound}
use Rattle.warm_core.proofs.tests.after.Given as goal

-- the world stays sound
abbrev pub invariant-loop-place : goal.invariant-loop-place
invariant-loop-place g l = StandsSound l.world
