use Rattle.checkpoints.proofs.Order.{new_is_sound, add_keeps_sound, done_keeps_sound}
use Rattle.checkpoints.proofs.laws.calls_keep_it_sound.Goals as goal

pub returns-clause-new : goal.returns-clause-new
returns-clause-new c = new_is_sound

pub returns-clause-add : goal.returns-clause-add
returns-clause-add c = add_keeps_sound

pub returns-clause-done : goal.returns-clause-done
returns-clause-done c = done_keeps_sound
