use Rattle.ctl_state.proofs.Asked.{bases_are_stored, named_snapshots_live}
use Rattle.ctl_state.proofs.asks.asked_is_there.Goals as goal

pub returns-clause-bases : goal.returns-clause-bases
returns-clause-bases c = bases_are_stored

pub returns-clause-snapshots : goal.returns-clause-snapshots
returns-clause-snapshots c = named_snapshots_live
