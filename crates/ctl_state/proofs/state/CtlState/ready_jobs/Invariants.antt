use Rattle.std.proofs.Common.{◌≡◌, ◌++◌, drop}
use Rattle.std.specs.List.{flat_map}
use Rattle.ctl_state.specs.Ready.{jobs_of, ready}
use Rattle.ctl_state.proofs.state.CtlState.ready_jobs.Given as goal

-- the jobs so far, and those of the migrations to come
abbrev pub invariant-loop-migration : goal.invariant-loop-migration
invariant-loop-migration l =
    l.jobs.items ++ flat_map (jobs_of l.self l.now) (drop l.migration-index l.self.migrations)
    ≡ ready l.self l.now
