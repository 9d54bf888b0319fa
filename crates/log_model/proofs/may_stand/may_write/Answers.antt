use Rattle.std.proofs.Common.{arith}
use Rattle.log_model.specs.Legal.{only}
use Rattle.log_model.proofs.Accepted.{written_bounded}
use Rattle.log_model.proofs.may_stand.may_write.Goals as goal

pub written-requires : goal.written-requires
written-requires c =
    let bound = written_bounded (only c.args.disk c.args.capacity) c.args.log.now c.requires in
    omega (arith, bound)

pub overflow_add-result : goal.overflow_add-result
overflow_add-result c =
    let bound = written_bounded (only c.args.disk c.args.capacity) c.args.log.now c.requires in
    let is = c.written.ensures in
    let few = c.if-count-le-MAX_WRITE_SECTORS.true in omega (arith, bound, is, few)
