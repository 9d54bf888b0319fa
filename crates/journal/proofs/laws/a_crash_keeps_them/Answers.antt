use Rattle.journal.proofs.Crashes.{crashes_keep}
use Rattle.journal.proofs.laws.a_crash_keeps_them.Goals as goal

pub returns : goal.returns
returns c = crashes_keep
