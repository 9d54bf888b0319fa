use Rattle.change_id.proofs.SpellingLemmas.{same_identifier}
use Rattle.change_id.proofs.spellings_differ.Goals as goal

pub returns : goal.returns
returns c = same_identifier
