use Rattle.change_id.proofs.Filtered.{read_the_same}
use Rattle.change_id.proofs.filtered_lists_read_the_same.Goals as goal

pub returns : goal.returns
returns g c = read_the_same
