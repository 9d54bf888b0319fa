use Rattle.log_model.proofs.IdsExist.{snapshots_have_ids, next_has_id, active_is_enabled}
use Rattle.log_model.proofs.laws.ids_exist.Goals as goal

pub returns-clause-taken : goal.returns-clause-taken
returns-clause-taken c = snapshots_have_ids

pub returns-clause-next : goal.returns-clause-next
returns-clause-next c = next_has_id

pub returns-clause-active : goal.returns-clause-active
returns-clause-active c = active_is_enabled
