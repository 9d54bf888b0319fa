use Rattle.record_codec.proofs.VariableFields.{spellings_differ}
use Rattle.record_codec.proofs.laws.spellings_differ.Goals as goal

pub returns : goal.returns
returns c = spellings_differ
