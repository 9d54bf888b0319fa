use Rattle.log_model.proofs.Live.{migrations_keep_theirs, migrations_get_none, others_leave_migrations}
use Rattle.log_model.proofs.laws.migrations_keep_theirs.Goals as goal

pub returns-clause-kept : goal.returns-clause-kept
returns-clause-kept c = migrations_keep_theirs

pub returns-clause-none_new : goal.returns-clause-none_new
returns-clause-none_new c = migrations_get_none

pub returns-clause-others : goal.returns-clause-others
returns-clause-others c = others_leave_migrations
