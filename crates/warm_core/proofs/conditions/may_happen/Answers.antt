use Rattle.std.proofs.Common.{arith}
use Rattle.warm_core.proofs.conditions.may_happen.Goals as goal

pub stage_may-requires-clause-mark : goal.stage_may-requires-clause-mark
stage_may-requires-clause-mark c =
    let within = (c.requires.sound.snap_is c.in-Some-Some.snap c.in-Some-Some.is-0).within in
    omega (arith, within)

pub stage_may-requires-clause-sized : goal.stage_may-requires-clause-sized
stage_may-requires-clause-sized c =
    ((c.requires.sound.stage_is c.in-Some-Some.snap c.in-Some-Some.is-0 c.in-Some-Some.stage
    c.in-Some-Some.is-1).fits).sized

pub stage_may-requires-clause-order : goal.stage_may-requires-clause-order
stage_may-requires-clause-order c =
    ((c.requires.sound.stage_is c.in-Some-Some.snap c.in-Some-Some.is-0 c.in-Some-Some.stage
    c.in-Some-Some.is-1).fits).order
