use Rattle.warm_core.proofs.NumbersStay.{numbers_stay}
use Rattle.warm_core.proofs.Entries.{grounds_stay}
use Rattle.warm_core.proofs.Stages.{stages_stay, begun-fits, begun-stands, written-at-end}
use Rattle.warm_core.proofs.laws.stages_stay.Goals as goal

pub returns-clause-begun : goal.returns-clause-begun
returns-clause-begun c = begun-stands

pub returns-clause-numbers_begun : goal.returns-clause-numbers_begun
returns-clause-numbers_begun c = begun-fits

pub returns-clause-numbers : goal.returns-clause-numbers
returns-clause-numbers c = numbers_stay

pub returns-clause-volumes : goal.returns-clause-volumes
returns-clause-volumes c = stages_stay

pub returns-clause-ended : goal.returns-clause-ended
returns-clause-ended c = written-at-end

pub returns-clause-ground : goal.returns-clause-ground
returns-clause-ground c = grounds_stay
