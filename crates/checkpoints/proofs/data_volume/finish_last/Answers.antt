use Rattle.std.proofs.Common.{◌-◌, refl, arith}
use Rattle.std.specs.Vec.{vec_len}
use Rattle.checkpoints.proofs.LastDone.{set_last}
use Rattle.checkpoints.proofs.data_volume.finish_last.Goals as goal

pub returns-clause-finished : goal.returns-clause-finished
returns-clause-finished c =
    set_last c.args.checkpoints.now.items c.in-Some.checkpoint.now
    (vec_len c.args.checkpoints.now - 1)
    (let some = c.in-Some.ensures.variant.0 refl in omega arith) c.in-Some.ensures.value
