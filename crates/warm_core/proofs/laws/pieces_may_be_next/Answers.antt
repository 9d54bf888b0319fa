use Rattle.warm_core.proofs.Pieces.{pieces_may_be_next}
use Rattle.warm_core.proofs.laws.pieces_may_be_next.Goals as goal

pub returns : goal.returns
returns c = pieces_may_be_next
