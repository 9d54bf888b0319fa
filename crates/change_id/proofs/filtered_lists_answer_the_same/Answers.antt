use Rattle.change_id.proofs.Filtered.{answer_the_same}
use Rattle.change_id.proofs.filtered_lists_answer_the_same.Goals as goal

pub returns : goal.returns
returns g c = answer_the_same
