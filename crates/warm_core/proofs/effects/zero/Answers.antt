use Rattle.std.proofs.Common.{ap, arith}
use Rattle.warm_core.specs.StageState.{MayZero}
use Rattle.warm_core.specs.DiskWorld.{world_of}
use Rattle.warm_core.specs.World.{World}
use Rattle.warm_core.proofs.EffectLemmas.{order-of, sized-of, stage-copies, runs-at}
use Rattle.warm_core.proofs.effects.zero.Goals as goal

pub write-requires-clause-within : goal.write-requires-clause-within
write-requires-clause-within c =
    let w : World = world_of c.args.world.now in
    let t = c.in-Some.stage in
    let run = c.args.run in
    let copies = stage-copies w t c.requires.sound.sound c.in-Some.is in
    let may = runs-at w (λ blocks snap t. MayZero blocks run t) copies.0 t (copies.1).snap
    c.in-Some.is c.requires.happens in
    let end = may.piece.within in
    let within = (copies.1).fits.order.within in
    let sized = (copies.1).fits.sized in
    let same = c.as_slice.ensures.len in
    let long = c.in_ok-sectors.ensures.len in
    omega (arith, end, within, sized, same, long)

pub zeroed-requires-clause-small : goal.zeroed-requires-clause-small
zeroed-requires-clause-small c =
    let w : World = world_of c.args.world.now in
    let sized = sized-of w c.in-Some.stage c.requires.sound.sound c.in-Some.is in
    let small = c.write.ensures.small in
    let same = ap (λ (x : World). x.capacity) (c.in_ok-write.ensures.written) in
    omega (arith, sized, small, same)

pub zeroed-requires-clause-order : goal.zeroed-requires-clause-order
zeroed-requires-clause-order c =
    order-of (world_of c.args.world.now) c.in-Some.stage c.requires.sound.sound c.in-Some.is
