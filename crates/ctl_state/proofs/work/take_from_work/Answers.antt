use Rattle.std.specs.BTreeMap.{get}
use Rattle.std.specs.Ordering.{nat_cmp}
use Rattle.std.proofs.Common.{◌∙◌}
use Rattle.ctl_state.proofs.WorkFacts.{leave_next}
use Rattle.ctl_state.proofs.work.take_from_work.Goals as goal

pub loop-vm-preserved : goal.loop-vm-preserved
loop-vm-preserved c = λ vm.
    leave_next c.args.vms.now c.loop-vm.vm-index vm (get nat_cmp c.loop-vm.work vm)
    (get nat_cmp c.remove.new.self vm) c.loop-vm-test.true (c.remove.ensures.updates.0 vm)
    ∙ c.loop-vm.invariant vm
