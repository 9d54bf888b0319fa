use Rattle.restart.proofs.Folding.{have_more, have_all, one_lacks, told_false}
use Rattle.restart.proofs.standing.have_snapshots.Goals as goal

pub returns-then-not-branch : goal.returns-then-not-branch
returns-then-not-branch c = one_lacks c.args.fleet.now c.args.state.now
    c.migrations-m-items.result.now c.loop-m.m-index c.m-item.result
    c.migrations-m-items.ensures c.loop-m-test.true c.m-item.is
    (told_false c.in_ok-have_its_snapshot.field-0 c.in_ok-have_its_snapshot.ensures.said
    c.if-not-branch.true)

pub loop-m-preserved : goal.loop-m-preserved
loop-m-preserved c = record {
  logs = c.in_ok-have_its_snapshot.ensures.of;
  have = have_more c.args.fleet.now c.migrations-m-items.result.now c.loop-m.m-index
      c.m-item.result c.loop-m-test.true c.m-item.is c.loop-m.invariant.have
      (c.in_ok-have_its_snapshot.ensures.said.0 c.if-not-branch.false);
}

pub returns : goal.returns
returns c = have_all c.args.fleet.now c.args.state.now c.migrations-m-items.result.now
    c.loop-m.m-index c.migrations-m-items.ensures c.loop-m-test.false c.loop-m.invariant.have
