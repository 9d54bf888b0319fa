-- A disk more.
use Rattle.std.proofs.Common.{◌+◌, List, subst, sym, arith}
use Rattle.log_facts.specs.declared.disks.DiskFacts.{DiskFacts}
use Rattle.log_facts.specs.Disks.{AreDisks}
use Rattle.log_facts.proofs.DiskLemmas.{disk_more}
use Rattle.log_facts.proofs.disks.disks_of.Goals as goal

pub loop-disk-preserved : goal.loop-disk-preserved
loop-disk-preserved c = record {
  are = subst (λ (fs : List DiskFacts). AreDisks (c.loop-disk.disk + 1) c.args.log.now fs)
      (sym c.in_ok-push.ensures.items)
      (disk_more c.loop-disk.disk c.args.log.now c.loop-disk.facts.items c.in_ok-disk_of.field-0
      c.loop-disk.invariant.are c.in_ok-disk_of.ensures);
  within = omega (arith, c.loop-disk-test.true);
}
