use Rattle.std.proofs.Common.{◌≡◌, ◌++◌}
use Rattle.warm_core.specs.DiskWorld.{world_of, StandsSound}
use Rattle.warm_core.specs.Events.{Follows}
use Rattle.warm_core.proofs.stepping.follow.Given as goal

-- the events so far were followed, and the others are left
abbrev pub invariant-loop-event : goal.invariant-loop-event
invariant-loop-event l =
    record {
      sound : StandsSound l.world;
      all : Follows l.yielded (world_of l.initial.world) (world_of l.world);
      left : l.yielded ++ l.event-iterator.rest.items ≡ l.initial.event-iterator.rest.items;
    }
