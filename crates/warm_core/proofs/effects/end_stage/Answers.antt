use Rattle.std.proofs.Common.{ℕ, List}
use Rattle.warm_core.specs.StageState.{MayFlush}
use Rattle.warm_core.specs.Staged.{blocks_asked}
use Rattle.warm_core.specs.DiskWorld.{world_of}
use Rattle.warm_core.specs.World.{World}
use Rattle.warm_core.proofs.Numbers.{full-ready}
use Rattle.warm_core.proofs.EffectLemmas.{order-of, stage-copies, runs-at}
use Rattle.warm_core.proofs.effects.end_stage.Goals as goal

pub flushed-requires-clause-order : goal.flushed-requires-clause-order
flushed-requires-clause-order c =
    order-of (world_of c.args.world.now) c.in-Some.stage c.requires.sound.sound c.in-Some.is

pub flushed-requires-clause-ready : goal.flushed-requires-clause-ready
flushed-requires-clause-ready c =
    let w : World = world_of c.args.world.now in
    let t = c.in-Some.stage in
    let sound = c.requires.sound.sound in
    let copies = stage-copies w t sound c.in-Some.is in
    let s = copies.0 in
    let blocks : List ℕ = blocks_asked w.capacity w.disk w.log w.base s t.full in
    let may : MayFlush blocks t =
    runs-at w (λ blocks snap t. MayFlush blocks t) s t (copies.1).snap c.in-Some.is
    c.requires.happens in
    λ full. full-ready blocks t.full t.at t.covered full (order-of w t sound c.in-Some.is).passed
    may.ready
