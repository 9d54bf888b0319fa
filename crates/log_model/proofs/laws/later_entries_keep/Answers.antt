use Rattle.log_model.proofs.Later.{later_entries_keep}
use Rattle.log_model.proofs.LaterPlaces.{later_entries_keep_places}
use Rattle.log_model.proofs.laws.later_entries_keep.Goals as goal

pub returns-clause-snapshots : goal.returns-clause-snapshots
returns-clause-snapshots c = later_entries_keep

pub returns-clause-places : goal.returns-clause-places
returns-clause-places c = later_entries_keep_places
