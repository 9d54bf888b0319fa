-- The page of the run's block takes it, or nothing changes.
use Rattle.std.proofs.Common.{arith}
use Rattle.std.proofs.lemmas.Result.{IfOk-weaker}
use Rattle.snapshot_chain.proofs.InPlace.{written_if, same_if}
use Rattle.snapshot_chain.proofs.layer.Layer.put_in_place.Goals as goal

pub returns-clause-ok : goal.returns-clause-ok
returns-clause-ok c =
    IfOk-weaker c.put_at.result _ _
    (λ added. written_if added c.args.self.now c.put_at.new.self _ c.args.first _
    c.args.sectors.now
    (omega (arith)) (omega (arith)) c.put_at.ensures.others) c.put_at.ensures.here

pub returns-clause-err : goal.returns-clause-err
returns-clause-err c =
    same_if c.put_at.result c.args.self.now c.put_at.new.self _ c.put_at.ensures.others
    c.put_at.ensures.err
