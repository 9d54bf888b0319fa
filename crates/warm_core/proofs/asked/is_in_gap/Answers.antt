use Rattle.sector_model.specs.Run.{end_of}
use Rattle.warm_core.proofs.AskedLemmas.{clear-asked}
use Rattle.warm_core.proofs.asked.is_in_gap.Goals as goal

pub returns : goal.returns
returns c = clear-asked c.args.capacity c.args.disk c.args.run.first (end_of c.args.run)
    c.args.asked.now c.is_clear.result c.requires c.is_clear.ensures
