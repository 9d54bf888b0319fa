use Rattle.source_disk.proofs.Taking.{room_is_no_part}
use Rattle.source_disk.proofs.laws.room_is_no_part.Goals as goal

pub returns : goal.returns
returns c = room_is_no_part c.room_is_no_part.ensures c.room_is_no_part-2.ensures
