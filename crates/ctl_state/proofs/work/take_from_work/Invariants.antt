use Rattle.std.proofs.Common.{◌≡◌, ℕ, drop, None, cond}
use Rattle.std.specs.BTreeMap.{get}
use Rattle.std.specs.Ordering.{nat_cmp}
use Rattle.ctl_state.specs.Value.{is_listed}
use Rattle.ctl_state.proofs.work.take_from_work.Given as goal

-- without those to come, what is left at the end
abbrev pub invariant-loop-vm : goal.invariant-loop-vm
invariant-loop-vm l = (vm : ℕ)
    → cond (is_listed (drop l.vm-index l.vms) vm) None (get nat_cmp l.work vm)
    ≡ cond (is_listed l.vms vm) None (get nat_cmp l.fn.work vm)
