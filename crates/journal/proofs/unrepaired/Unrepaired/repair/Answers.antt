use Rattle.std.proofs.Common.{sym, subst}
use Rattle.journal.specs.declared.refusal.JournalRefused.TheVariants.{DiskFault}
use Rattle.journal.specs.Journal.{JournalState, LeavesOneOf, outcomes}
use Rattle.journal.specs.Opening.{Opens, Refuses}
use Rattle.journal.specs.Unrepaired.{UnrepairedState, just_opened}
use Rattle.journal.proofs.Keeping.{kept_leaves}
use Rattle.journal.proofs.Repairing.{repaired, unrepaired, kept_open}
use Rattle.journal.proofs.unrepaired.Unrepaired.repair.Goals as goal

pub of-requires : goal.of-requires
of-requires g c =
    let found = c.self.inside.found in
    let old = g.D.Disk.state c.self.inside.before.value in
    let new = g.D.Disk.state c.repair.new.disk in
    kept_open old new found c.self.invariant.whole
    (repaired c.self.inside.len found old (g.D.Disk.state c.self.inside.disk) new c.self.invariant
    c.in-Ok.ensures.repaired c.in-Ok.ensures.cause.stays)

pub returns-in-Ok-clause-leaves : goal.returns-in-Ok-clause-leaves
returns-in-Ok-clause-leaves g c =
    let found = c.self.inside.found in
    let old = g.D.Disk.state c.self.inside.before.value in
    let new = g.D.Disk.state c.repair.new.disk in
    let opens : Opens old found.records.items new =
    repaired c.self.inside.len found old (g.D.Disk.state c.self.inside.disk) new c.self.invariant
    c.in-Ok.ensures.repaired c.in-Ok.ensures.cause.stays in
    subst (λ (j : JournalState). LeavesOneOf (outcomes j) j.disk) (sym c.of.ensures)
    (kept_leaves (just_opened found new) (kept_open old new found c.self.invariant.whole opens))

pub returns-clause-refused : goal.returns-clause-refused
returns-clause-refused g c =
    let new = g.D.Disk.state c.repair.new.disk in
    let at = c.in-Err.field-0.0 in
    let cause = c.in-Err.ensures.cause in
    subst (λ (f : UnrepairedState). Refuses (DiskFault at) f.before new) c.self.view_is
    (unrepaired at c.self.inside.len c.self.inside.found _ (g.D.Disk.state c.self.inside.disk) new
    c.self.invariant c.in-Err.ensures.kept (cause.later, cause.failed) c.in-Err.ensures.offset)
