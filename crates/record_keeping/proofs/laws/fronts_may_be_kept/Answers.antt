use Rattle.record_keeping.proofs.KeepLemmas.{fronts_may}
use Rattle.record_keeping.proofs.laws.fronts_may_be_kept.Goals as goal

pub returns : goal.returns
returns c = fronts_may
