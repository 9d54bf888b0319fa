use Rattle.warm_core.proofs.Stages.{staged-later}
use Rattle.warm_core.proofs.Begins.{staged-grows}
use Rattle.warm_core.proofs.Ends.{finished_snapshots_go}
use Rattle.warm_core.proofs.laws.staged_stays.Goals as goal

pub returns-clause-entries : goal.returns-clause-entries
returns-clause-entries c = staged-later

pub returns-clause-later : goal.returns-clause-later
returns-clause-later c = staged-grows

pub returns-clause-gone : goal.returns-clause-gone
returns-clause-gone c = finished_snapshots_go
