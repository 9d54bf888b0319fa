use Rattle.journal.proofs.Crashes.{reads_keep_them}
use Rattle.journal.proofs.laws.a_reading_keeps_them.Goals as goal

pub returns : goal.returns
returns c = reads_keep_them
