use Rattle.ctl_state.proofs.OtherJobs.{cutovers_stay, other_jobs_stay}
use Rattle.ctl_state.proofs.sound.other_jobs_stay.Goals as goal

pub returns-clause-cutovers : goal.returns-clause-cutovers
returns-clause-cutovers c = cutovers_stay

pub returns-clause-jobs : goal.returns-clause-jobs
returns-clause-jobs c = other_jobs_stay
