use Rattle.std.proofs.Common.{◌≡◌, drop}
use Rattle.ctl_state.specs.MayStand.{has_double}
use Rattle.ctl_state.proofs.work.has_double.Given as goal

abbrev pub invariant-loop-i : goal.invariant-loop-i
invariant-loop-i l = has_double l.vms ≡ has_double (drop l.i l.vms)
