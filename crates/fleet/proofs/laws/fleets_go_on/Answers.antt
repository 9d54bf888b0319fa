use Rattle.fleet.proofs.Found.{logs_go_on, lift_goes_on, lower_goes_on}
use Rattle.fleet.proofs.laws.fleets_go_on.Goals as goal

pub returns-clause-logs : goal.returns-clause-logs
returns-clause-logs c = logs_go_on

pub returns-clause-lift : goal.returns-clause-lift
returns-clause-lift c = lift_goes_on

pub returns-clause-lower : goal.returns-clause-lower
returns-clause-lower c = lower_goes_on
