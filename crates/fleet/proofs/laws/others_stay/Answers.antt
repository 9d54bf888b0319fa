use Rattle.fleet.proofs.Logs.{log_is_found, others_stay}
use Rattle.fleet.proofs.Found.{numbers_stay}
use Rattle.fleet.proofs.laws.others_stay.Goals as goal

pub returns-clause-found : goal.returns-clause-found
returns-clause-found c = log_is_found

pub returns-clause-others : goal.returns-clause-others
returns-clause-others c = others_stay

pub returns-clause-numbers : goal.returns-clause-numbers
returns-clause-numbers c = numbers_stay
