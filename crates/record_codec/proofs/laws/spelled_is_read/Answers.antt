use Rattle.record_codec.proofs.VariableFields.{spelled_is_read}
use Rattle.record_codec.proofs.laws.spelled_is_read.Goals as goal

pub returns : goal.returns
returns c = spelled_is_read
