use Rattle.std.proofs.Common.{inl}
use Rattle.basics.proofs.Truth.{at_true, at_false}
use Rattle.restart.proofs.Folding.{stand_to_more, strange_at}
use Rattle.restart.proofs.standing.fold_records.Goals as goal

pub returns-then-not-branch : goal.returns-then-not-branch
returns-then-not-branch c = inl (strange_at c.args.fleet.now c.args.records.now
    c.loop-place.place c.loop-place.state c.index-records-place.result c.loop-place-test.true
    c.index-records-place.is c.loop-place.invariant.stand
    (at_false _ _ c.in_ok-accept.field-0 c.if-not-branch.true c.in_ok-accept.ensures.said))

pub loop-place-preserved : goal.loop-place-preserved
loop-place-preserved c = record {
  logs = c.in_ok-accept.ensures.of;
  stand = stand_to_more c.args.fleet.now c.args.records.now c.loop-place.place
      c.loop-place.state c.accept.new.state c.index-records-place.result c.loop-place-test.true
      c.index-records-place.is c.loop-place.invariant.stand
      (at_true _ _ c.in_ok-accept.field-0 c.if-not-branch.false c.in_ok-accept.ensures.said);
}
