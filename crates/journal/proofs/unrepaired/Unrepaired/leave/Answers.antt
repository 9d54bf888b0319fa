use Rattle.std.proofs.Common.{subst}
use Rattle.edge_traits.specs.Disk.{WhereTold}
use Rattle.journal.specs.Opening.{KeepsStanding}
use Rattle.journal.specs.Unrepaired.{UnrepairedState}
use Rattle.journal.proofs.Repairing.{reads_keep}
use Rattle.journal.proofs.unrepaired.Unrepaired.leave.Goals as goal

pub returns-clause-images : goal.returns-clause-images
returns-clause-images g c =
    let new = g.D.Disk.state c.self.inside.disk in
    subst (λ (f : UnrepairedState). WhereTold KeepsStanding f.before.contents new.contents)
    c.self.view_is (reads_keep _ c.self.inside.found.records.items new c.self.invariant.reads)
