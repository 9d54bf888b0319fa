use Rattle.sector_model.proofs.Volumes.{broken_is_written, broken_is_zeroed}
use Rattle.sector_model.proofs.laws.broken_volumes.Goals as goal

pub returns-clause-written : goal.returns-clause-written
returns-clause-written c = broken_is_written

pub returns-clause-zeroed : goal.returns-clause-zeroed
returns-clause-zeroed c = broken_is_zeroed
