-- The run is put into the page's list.
use Rattle.std.proofs.Common.{◌+◌, ◌*◌, ◌∙◌, arith}
use Rattle.snapshot_chain.specs.Page128.{sector_at, run_at}
use Rattle.snapshot_chain.proofs.Options.{over_some}
use Rattle.snapshot_chain.proofs.page128.Page128.put_in_place.Goals as goal

pub returns-clause-ok : goal.returns-clause-ok
returns-clause-ok c = (
  rw (← c.self.view_is, c.in-Many.is) (rw c.deref_mut.ensures.value at c.in_ok-put_run.ensures.ok),
  omega (arith, c.if-not-is_within.false, c.requires),
)

-- where each is there, the run is written over it
pub returns-then-missing-eq0-clause-ok : goal.returns-then-missing-eq0-clause-ok
returns-then-missing-eq0-clause-ok c = (
  λ k inside. c.overwrite.ensures k inside
      ∙ over_some (run_at c.args.offset c.args.sectors.now (128 * 0 + k))
      (sector_at c.args.self.now k) (c.missing.ensures.none c.if-missing-eq0.true k inside),
  omega (arith, c.if-not-is_within.false, c.requires),
)
