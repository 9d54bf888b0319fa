use Rattle.ctl_state.proofs.EffectStands.{tasks_tell_jobs}
use Rattle.ctl_state.proofs.effect.tasks_tell_jobs.Goals as goal

pub returns : goal.returns
returns c = tasks_tell_jobs
