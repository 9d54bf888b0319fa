use Rattle.std.proofs.Common.{arith}
use Rattle.std.proofs.lemmas.Result.{on_err_weaker}
use Rattle.edge_traits.specs.Disk.{WhereTold}
use Rattle.journal.specs.declared.format.TheConstants.{EMPTY_BYTES}
use Rattle.journal.specs.Devices.{LeavesFew, LeavesCut}
use Rattle.journal.specs.Opening.{KeepsStanding}
use Rattle.journal.proofs.Loading.{few_keeps, cut_keeps}
use Rattle.journal.proofs.unrepaired.repair.Goals as goal

pub returns-then-len-le-EMPTY_BYTES-clause-kept : goal.returns-then-len-le-EMPTY_BYTES-clause-kept
returns-then-len-le-EMPTY_BYTES-clause-kept g c =
    let old = (g.D.Disk.state c.args.disk.now).contents in
    let new = (g.D.Disk.state c.create.new.disk).contents in
    on_err_weaker {P = WhereTold (LeavesFew EMPTY_BYTES) old new}
    {Q = WhereTold KeepsStanding old new} c.create.result
    (few_keeps old new c.requires.settled (λ d told. omega (arith, c.requires.long d told)))
    c.create.ensures.cut

pub returns-else-len-le-EMPTY_BYTES-clause-kept : goal.returns-else-len-le-EMPTY_BYTES-clause-kept
returns-else-len-le-EMPTY_BYTES-clause-kept g c =
    let old = (g.D.Disk.state c.args.disk.now).contents in
    let new = (g.D.Disk.state c.cut_to.new.disk).contents in
    on_err_weaker {P = WhereTold (LeavesCut c.args.found.now.end) old new}
    {Q = WhereTold KeepsStanding old new} c.cut_to.result
    (cut_keeps old new c.args.found.now c.args.len c.requires.settled c.requires.long (omega arith)
    c.requires.whole
    c.requires.found)
    c.cut_to.ensures.left
