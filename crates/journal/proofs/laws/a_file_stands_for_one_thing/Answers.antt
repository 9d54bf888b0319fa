use Rattle.journal.proofs.StandingLemmas.{stands_for_one}
use Rattle.journal.proofs.laws.a_file_stands_for_one_thing.Goals as goal

pub returns : goal.returns
returns c = stands_for_one
