use Rattle.std.proofs.Common.{◌+◌, arith}
use Rattle.std.proofs.lemmas.List.FromFn.{fill_by_all}
use Rattle.sector_model.specs.Sector.{zero_sector}
use Rattle.log_model.specs.PlainMachine.{sector_at}
use Rattle.log_model.proofs.query.read_into.Goals as goal

pub returns : goal.returns
returns c = fill_by_all (λ i. sector_at c.args.disk (c.args.first + i) c.args.log.now) c.loop-i.buf
    _ zero_sector c.loop-i.invariant.long (λ k less. c.loop-i.invariant.so_far k (omega arith))
