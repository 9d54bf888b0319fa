use Rattle.std.proofs.Common.{[], take}
use Rattle.source_vm.specs.Disks.{AreDisks}
use Rattle.source_vm.proofs.disks.new_disks.Given as goal

abbrev pub invariant-loop-disk : goal.invariant-loop-disk
invariant-loop-disk l = AreDisks l.machine (take l.disk l.capacities) [] l.disks.items
