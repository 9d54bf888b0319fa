use Rattle.phase_table.proofs.Steps.{tests_hold_of_steps}
use Rattle.phase_table.proofs.laws.steps_are_rows.Goals as goal

pub returns : goal.returns
returns c = tests_hold_of_steps
