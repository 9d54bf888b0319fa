use Rattle.journal.proofs.Crashes.{never_strange}
use Rattle.journal.proofs.laws.their_file_is_a_journal.Goals as goal

pub returns : goal.returns
returns c = never_strange
