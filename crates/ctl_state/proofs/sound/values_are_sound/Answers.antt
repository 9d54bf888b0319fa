use Rattle.ctl_state.proofs.SoundSteps.{steps_keep_sound}
use Rattle.ctl_state.proofs.SoundValues.{records_keep_sound, values_are_sound}
use Rattle.ctl_state.proofs.sound.values_are_sound.Goals as goal

pub returns-clause-steps : goal.returns-clause-steps
returns-clause-steps c = steps_keep_sound

pub returns-clause-records : goal.returns-clause-records
returns-clause-records c = records_keep_sound

pub returns-clause-values : goal.returns-clause-values
returns-clause-values c = values_are_sound
