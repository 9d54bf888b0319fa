use Rattle.change_id.proofs.IdMarks.{marks_of_ids}
use Rattle.change_id.proofs.ids_have_one_mark.Goals as goal

pub returns : goal.returns
returns g c = marks_of_ids
