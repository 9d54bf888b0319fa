use Rattle.std.proofs.Common.{refl}
use Rattle.target_volume.proofs.SlotLemmas.{orderly_now}
use Rattle.target_volume.proofs.mem_volumes.MemVolumesVolumeStore.faults.Goals as goal

pub returns-clause-orderly : goal.returns-clause-orderly
returns-clause-orderly c =
    orderly_now _ _ c.self.inside.slots.entries c.self.view_is refl c.self.invariant.ordered
    c.self.invariant.kept
