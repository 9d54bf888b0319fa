use Rattle.sector_model.proofs.Volumes.{loose_then, flushed_is_none_loose}
use Rattle.sector_model.proofs.laws.loose_sectors_after.Goals as goal

pub returns-clause-each : goal.returns-clause-each
returns-clause-each c = loose_then

pub returns-clause-none : goal.returns-clause-none
returns-clause-none c = flushed_is_none_loose
