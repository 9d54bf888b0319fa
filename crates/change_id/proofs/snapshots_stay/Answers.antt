use Rattle.change_id.proofs.IdMarks.{later_entries_keep, epoch-there}
use Rattle.change_id.proofs.snapshots_stay.Goals as goal

pub returns-clause-later : goal.returns-clause-later
returns-clause-later g c = later_entries_keep

pub returns-clause-epoch : goal.returns-clause-epoch
returns-clause-epoch g c = epoch-there
