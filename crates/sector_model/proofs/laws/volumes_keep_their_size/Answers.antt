use Rattle.sector_model.proofs.Volumes.{keep_their_size}
use Rattle.sector_model.proofs.laws.volumes_keep_their_size.Goals as goal

pub returns : goal.returns
returns c = keep_their_size
