use Rattle.warm_core.proofs.AskedLemmas.{clear-left}
use Rattle.warm_core.proofs.asked.is_next.Goals as goal

pub returns-else-stage : goal.returns-else-stage
returns-else-stage c =
    let t = c.args.stage.now in
    clear-left t.capacity c.args.disk t.at c.args.first c.args.asked.now t c.is_clear.result
    c.requires.within c.if-stage.false c.is_clear.ensures
