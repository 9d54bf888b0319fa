use Rattle.restart.specs.ReadLogs.{AreOf}
use Rattle.restart.proofs.Folding.{StandTo}
use Rattle.restart.proofs.standing.fold_records.Given as goal

abbrev pub invariant-loop-place : goal.invariant-loop-place
invariant-loop-place l = record {
  logs : AreOf l.fleet l.logs.facts;
  stand : StandTo l.fleet l.records l.place l.state;
}
