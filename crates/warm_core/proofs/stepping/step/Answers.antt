use Rattle.std.proofs.Common.{◌<◌, ◌^◌, sym, subst, arith}
use Rattle.warm_core.specs.World.{IsSound}
use Rattle.warm_core.specs.DiskWorld.{world_of}
use Rattle.warm_core.proofs.Core.{events_keep_sound}
use Rattle.warm_core.proofs.stepping.step.Goals as goal

pub returns-in-Ok-clause-sound : goal.returns-in-Ok-clause-sound
returns-in-Ok-clause-sound c =
    let small : c.args.world.capacity < 2 ^ 64 = omega arith in
    let may = c.may_happen.ensures.0 c.if-not-may_happen.false in
    let left = c.in-Ok.ensures.ok in
    record {
      within = left.within;
      sound = subst IsSound (sym left.effect)
          (events_keep_sound c.args.event (world_of c.args.world) small c.requires.sound may);
    }
