use Rattle.log_model.proofs.Readings.{marks_of_ids}
use Rattle.log_model.proofs.laws.marks_of_ids.Goals as goal

pub returns : goal.returns
returns c = marks_of_ids
