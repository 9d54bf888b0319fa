use Rattle.log_model.proofs.OffPlace.{off_has_place}
use Rattle.log_model.proofs.OffLaws.{no_write_while_off, off_is_frozen}
use Rattle.log_model.proofs.laws.off_is_frozen.Goals as goal

pub returns-clause-no_write : goal.returns-clause-no_write
returns-clause-no_write c = no_write_while_off

pub returns-clause-same : goal.returns-clause-same
returns-clause-same c = off_is_frozen

pub returns-clause-place : goal.returns-clause-place
returns-clause-place c = off_has_place
