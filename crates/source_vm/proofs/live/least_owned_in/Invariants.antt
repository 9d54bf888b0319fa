use Rattle.source_vm.proofs.LiveLemmas.{NoneOf}
use Rattle.source_vm.proofs.live.least_owned_in.Given as goal

abbrev pub invariant-loop-snap : goal.invariant-loop-snap
invariant-loop-snap l = NoneOf l.owner l.later l.snap-index
