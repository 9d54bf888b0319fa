-- Two imports of one checkpoint, on which a test computes the definitions.
use Rattle.std.specs.Prelude.{true, false}
use Rattle.checkpoints.specs.DataVolume.{DataVolumeState, no_checkpoints, after_add}

abbrev pub one_added : DataVolumeState
one_added = after_add no_checkpoints 0 1 false

abbrev pub final_added : DataVolumeState
final_added = after_add no_checkpoints 0 1 true
