use Rattle.warm_core.proofs.Ends.{finished_is_whole, whole_at_off_place}
use Rattle.warm_core.proofs.laws.finished_is_whole.Goals as goal

pub returns-clause-whole : goal.returns-clause-whole
returns-clause-whole c = finished_is_whole

pub returns-clause-off : goal.returns-clause-off
returns-clause-off c = whole_at_off_place
