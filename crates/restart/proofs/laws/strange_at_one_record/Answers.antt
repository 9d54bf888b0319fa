use Rattle.restart.proofs.StrangeNumbers.{strange_at_one, strange_among, taken_not}
use Rattle.restart.proofs.laws.strange_at_one_record.Goals as goal

pub returns-clause-one : goal.returns-clause-one
returns-clause-one c = strange_at_one

pub returns-clause-none : goal.returns-clause-none
returns-clause-none c = taken_not

pub returns-clause-among : goal.returns-clause-among
returns-clause-among c = strange_among
