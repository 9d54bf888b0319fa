use Rattle.restart.proofs.StrangeNumbers.{taken_not}
use Rattle.restart.proofs.Agreeing.{agreeing_not, agreeing_taken}
use Rattle.restart.proofs.TakenOnes.{taken_agree}
use Rattle.restart.proofs.laws.agreeing_records_are_taken.Goals as goal

pub returns-clause-none : goal.returns-clause-none
returns-clause-none c = agreeing_not taken_not

pub returns-clause-taken : goal.returns-clause-taken
returns-clause-taken c = agreeing_taken

pub returns-clause-agree : goal.returns-clause-agree
returns-clause-agree c = taken_agree
