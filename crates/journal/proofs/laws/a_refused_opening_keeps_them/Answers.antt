use Rattle.journal.proofs.Crashes.{refuses_keep}
use Rattle.journal.proofs.laws.a_refused_opening_keeps_them.Goals as goal

pub returns : goal.returns
returns c = refuses_keep
