use Rattle.warm_core.proofs.Holding.{fillings_stay}
use Rattle.warm_core.proofs.laws.fillings_stay.Goals as goal

pub returns : goal.returns
returns c = fillings_stay
