use Rattle.std.proofs.Common.{subst}
use Rattle.journal.specs.Journal.{JournalState, IsKept}
use Rattle.journal.proofs.Keeping.{kept_leaves}
use Rattle.journal.proofs.journal.Journal.records.Goals as goal

pub returns-clause-kept : goal.returns-clause-kept
returns-clause-kept g c = subst (λ (j : JournalState). IsKept j) c.self.view_is c.self.invariant

pub returns-clause-leaves : goal.returns-clause-leaves
returns-clause-leaves g c =
    kept_leaves c.args.self.now
    (subst (λ (j : JournalState). IsKept j) c.self.view_is c.self.invariant)
