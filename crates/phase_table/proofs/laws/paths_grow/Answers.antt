use Rattle.phase_table.proofs.Walks.{fronts_are_paths, paths_grow}
use Rattle.phase_table.proofs.laws.paths_grow.Goals as goal

pub returns-clause-fronts : goal.returns-clause-fronts
returns-clause-fronts c = fronts_are_paths

pub returns-clause-grow : goal.returns-clause-grow
returns-clause-grow c = paths_grow
