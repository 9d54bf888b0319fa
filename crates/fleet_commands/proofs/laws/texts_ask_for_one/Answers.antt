use Rattle.fleet_commands.proofs.Asked.{each_asks, asks_for_one}
use Rattle.fleet_commands.proofs.laws.texts_ask_for_one.Goals as goal

pub returns-clause-each : goal.returns-clause-each
returns-clause-each c = each_asks

pub returns-clause-one : goal.returns-clause-one
returns-clause-one c = asks_for_one
