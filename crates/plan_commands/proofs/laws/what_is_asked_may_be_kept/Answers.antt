use Rattle.plan_commands.proofs.Begun.{starts_may_be_kept}
use Rattle.plan_commands.proofs.Cutovers.{cutovers_may_be_kept}
use Rattle.plan_commands.proofs.Planned.{plans_may_be_kept}
use Rattle.plan_commands.proofs.laws.what_is_asked_may_be_kept.Goals as goal

pub returns-clause-plans : goal.returns-clause-plans
returns-clause-plans c = plans_may_be_kept

pub returns-clause-starts : goal.returns-clause-starts
returns-clause-starts c = starts_may_be_kept

pub returns-clause-cutovers : goal.returns-clause-cutovers
returns-clause-cutovers c = cutovers_may_be_kept
