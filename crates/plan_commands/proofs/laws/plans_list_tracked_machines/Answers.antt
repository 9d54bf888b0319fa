use Rattle.plan_commands.proofs.Planned.{plans_list_tracked}
use Rattle.plan_commands.proofs.laws.plans_list_tracked_machines.Goals as goal

pub returns : goal.returns
returns c = plans_list_tracked
