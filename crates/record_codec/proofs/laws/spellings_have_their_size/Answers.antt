use Rattle.record_codec.proofs.Sizes.{spellings_have_their_size}
use Rattle.record_codec.proofs.laws.spellings_have_their_size.Goals as goal

pub returns : goal.returns
returns c = spellings_have_their_size
