use Rattle.journal.proofs.Crashes.{opens_one_of}
use Rattle.journal.proofs.laws.an_opening_gives_one_of_them.Goals as goal

pub returns : goal.returns
returns c = opens_one_of
