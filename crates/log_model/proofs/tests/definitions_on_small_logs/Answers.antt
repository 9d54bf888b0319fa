-- It computes.
use Rattle.std.proofs.Common.{refl}
use Rattle.sector_model.specs.Run.{runs_of}
use Rattle.log_model.proofs.tests.definitions_on_small_logs.Goals as goal

pub returns-clause-answered : goal.returns-clause-answered
unfolding runs_of
returns-clause-answered c = refl
