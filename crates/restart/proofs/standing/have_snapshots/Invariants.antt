use Rattle.restart.specs.ReadLogs.{AreOf}
use Rattle.restart.proofs.Folding.{HaveTo}
use Rattle.restart.proofs.standing.have_snapshots.Given as goal

abbrev pub invariant-loop-m : goal.invariant-loop-m
invariant-loop-m l = record {
  logs : AreOf l.fleet l.logs.facts;
  have : HaveTo l.fleet l.m-index l.m-items;
}
