use Rattle.std.proofs.Common.{◌≡◌, Result, Err, length, arith}
use Rattle.std.proofs.lemmas.Grind.{common_steps}
use Rattle.journal.proofs.Reading.{read_failed}
use Rattle.journal.proofs.cells.read_cells.Goals as goal

pub returns-in_err-record : goal.returns-in_err-record
returns-in_err-record c =
    let is : c.from_residual-in_err-record.result ≡ Err c.in_err-record.field-0.0 =
    grind (arith, common_steps, c.from_residual-in_err-record.ensures) in
    rw is (read_failed c.args.cells.now c.loop-body.records.items c.loop-body.rest.now
    c.in-Some.body.now
    c.in-Some.behind.now c.len.result c.in_err-record.field-0.0 c.requires
    (grind (arith, common_steps)) c.loop-body.invariant c.in-Some.ensures
    c.in_err-record.ensures)
