use Rattle.warm_core.proofs.Answered.{stages_are_answered}
use Rattle.warm_core.proofs.laws.stages_are_answered.Goals as goal

pub returns : goal.returns
returns c = stages_are_answered
