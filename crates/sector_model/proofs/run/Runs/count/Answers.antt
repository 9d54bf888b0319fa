use Rattle.sector_model.proofs.Spacing.{sum_fits}
use Rattle.sector_model.proofs.run.Runs.count.Goals as goal

pub sectors_of-requires : goal.sectors_of-requires
sectors_of-requires c = sum_fits c.as_slice.result.now c.as_slice.ensures.spaced
