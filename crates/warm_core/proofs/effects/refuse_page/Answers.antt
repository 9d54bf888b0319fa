use Rattle.warm_core.specs.DiskWorld.{world_of}
use Rattle.warm_core.proofs.EffectLemmas.{order-of}
use Rattle.warm_core.proofs.effects.refuse_page.Goals as goal

pub refused-requires-clause-order : goal.refused-requires-clause-order
refused-requires-clause-order c =
    order-of (world_of c.args.world.now) c.in-Some.stage c.requires.sound.sound c.in-Some.is
