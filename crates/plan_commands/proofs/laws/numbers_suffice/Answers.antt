use Rattle.plan_commands.proofs.Numbers.{plans_find_numbers, starts_find_numbers}
use Rattle.plan_commands.proofs.laws.numbers_suffice.Goals as goal

pub returns-clause-plans : goal.returns-clause-plans
returns-clause-plans c = plans_find_numbers

pub returns-clause-starts : goal.returns-clause-starts
returns-clause-starts c = starts_find_numbers
