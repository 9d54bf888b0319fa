-- Each computes.
use Rattle.std.proofs.Common.{refl}
use Rattle.sector_model.specs.Run.{runs_of}
use Rattle.sector_model.proofs.tests.definitions_on_small_disks.Goals as goal

pub returns-clause-whole : goal.returns-clause-whole
unfolding runs_of
returns-clause-whole c = refl

pub returns-clause-short : goal.returns-clause-short
unfolding runs_of
returns-clause-short c = refl

pub returns-clause-smallest : goal.returns-clause-smallest
unfolding runs_of
returns-clause-smallest c = refl

pub returns-clause-joined : goal.returns-clause-joined
unfolding runs_of
returns-clause-joined c = refl

pub returns-clause-apart : goal.returns-clause-apart
unfolding runs_of
returns-clause-apart c = refl

pub returns-clause-rest : goal.returns-clause-rest
unfolding runs_of
returns-clause-rest c = refl

pub returns-clause-all : goal.returns-clause-all
unfolding runs_of
returns-clause-all c = refl
