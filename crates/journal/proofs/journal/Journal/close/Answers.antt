use Rattle.std.proofs.Common.{subst}
use Rattle.journal.specs.Journal.{JournalState, IsKept, LeavesOneOf, outcomes}
use Rattle.journal.proofs.Keeping.{kept_leaves}
use Rattle.journal.proofs.journal.Journal.close.Goals as goal

pub returns-clause-kept : goal.returns-clause-kept
returns-clause-kept g c = subst (λ (j : JournalState). IsKept j) c.self.view_is c.self.invariant

pub returns-clause-leaves : goal.returns-clause-leaves
returns-clause-leaves g c =
    subst (λ (j : JournalState). LeavesOneOf (outcomes j) (g.D.Disk.state c.self.inside.disk))
    c.self.view_is
    (kept_leaves _ c.self.invariant)
