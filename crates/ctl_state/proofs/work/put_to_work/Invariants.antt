use Rattle.std.proofs.Common.{◌≡◌, ◌≤◌, length, false, drop}
use Rattle.ctl_state.specs.MayStand.{has_double}
use Rattle.ctl_state.specs.Work.{Joins}
use Rattle.ctl_state.proofs.work.put_to_work.Given as goal

-- those behind are in, and differ
abbrev pub invariant-loop-left : goal.invariant-loop-left
invariant-loop-left l = record {
  within : l.left ≤ length l.vms;
  joined : Joins l.fn.work l.work (drop l.left l.vms);
  differ : has_double (drop l.left l.vms) ≡ false;
}

abbrev pub decreases-loop-left : goal.decreases-loop-left
decreases-loop-left l = l.left
