use Rattle.change_tracker.proofs.Histories.{room_is_no_part}
use Rattle.change_tracker.proofs.laws.room_is_no_part.Goals as goal

pub returns : goal.returns
returns c = room_is_no_part
