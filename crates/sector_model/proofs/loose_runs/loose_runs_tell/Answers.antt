use Rattle.sector_model.proofs.LooseRuns.{runs_are_unique, loose_runs_count, loose_runs_grow, no_loose_runs}
use Rattle.sector_model.proofs.loose_runs.loose_runs_tell.Goals as goal

pub returns-clause-unique : goal.returns-clause-unique
returns-clause-unique c = runs_are_unique

pub returns-clause-count : goal.returns-clause-count
returns-clause-count c = loose_runs_count

pub returns-clause-grow : goal.returns-clause-grow
returns-clause-grow c = loose_runs_grow

pub returns-clause-none : goal.returns-clause-none
returns-clause-none c = no_loose_runs
