use Rattle.std.proofs.Common.{◌≡◌, ◌++◌, map, drop}
use Rattle.ctl_state.specs.declared.ready.Job.TheVariants.{Copy}
use Rattle.ctl_state.specs.Migration.{left_from}
use Rattle.ctl_state.proofs.ready.put_copies.Given as goal

-- the jobs so far, and those of the disks to come
abbrev pub invariant-loop-disk : goal.invariant-loop-disk
invariant-loop-disk l =
    l.jobs.items ++ map (λ disk. Copy l.mig disk) (left_from l.disk (drop l.disk l.copies))
    ≡ l.fn.jobs.items ++ map (λ disk. Copy l.mig disk) (left_from 0 l.copies)
