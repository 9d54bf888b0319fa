use Rattle.warm_core.proofs.Core.{law_of_the_core}
use Rattle.warm_core.proofs.laws.whatever_happens.Goals as goal

pub returns : goal.returns
returns c = law_of_the_core
