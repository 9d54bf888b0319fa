use Rattle.warm_core.proofs.Entries.{entries_keep_sound}
use Rattle.warm_core.proofs.Core.{events_keep_sound}
use Rattle.warm_core.proofs.laws.worlds_stay_sound.Goals as goal

pub returns-clause-events : goal.returns-clause-events
returns-clause-events c = events_keep_sound

pub returns-clause-entries : goal.returns-clause-entries
returns-clause-entries c = entries_keep_sound
