use Rattle.journal.proofs.Crashes.{reads_one_of}
use Rattle.journal.proofs.laws.a_reading_gives_one_of_them.Goals as goal

pub returns : goal.returns
returns c = reads_one_of
