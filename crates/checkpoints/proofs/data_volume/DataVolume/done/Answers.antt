use Rattle.std.proofs.Common.{◌≡◌, Bool, Result, Ok, Err, List}
use Rattle.std.specs.Prelude.{OnOk, OnErr}
use Rattle.checkpoints.specs.declared.checkpoint.Checkpoint.{Checkpoint}
use Rattle.checkpoints.specs.declared.checkpoint.CheckRefused.{CheckRefused}
use Rattle.checkpoints.specs.DataVolume.{DataVolumeState, with_last_done, IsSound}
use Rattle.checkpoints.proofs.Order.{done_keeps_sound}
use Rattle.checkpoints.proofs.data_volume.DataVolume.done.Goals as goal

abbrev state_of : List Checkpoint → (has_final : Bool) → DataVolumeState
state_of checkpoints has_final = record { checkpoints = checkpoints; has_final = has_final }

-- whether the last was finished or not
sound_where : (result : Result (Unit {0}) CheckRefused) (old new : List Checkpoint)
    (has_final : Bool)
    → OnOk result (new ≡ with_last_done old) → OnErr result (new ≡ old)
    → IsSound (state_of old has_final) → IsSound (state_of new has_final)
sound_where (Ok u) old new has_final finished kept sound =
    rw finished (done_keeps_sound (state_of old has_final) sound)
sound_where (Err e) old new has_final finished kept sound = rw kept sound

pub invariant_of-self : goal.invariant_of-self
invariant_of-self c =
    sound_where c.finish_last.result c.self.inside.checkpoints.items
    c.finish_last.new.checkpoints.items c.self.inside.has_final
    c.finish_last.ensures.finished c.finish_last.ensures.kept c.self.invariant
