use Rattle.record_keeping.proofs.KeepLemmas.{one_may}
use Rattle.record_keeping.proofs.laws.one_may_be_kept.Goals as goal

pub returns : goal.returns
returns c = one_may
