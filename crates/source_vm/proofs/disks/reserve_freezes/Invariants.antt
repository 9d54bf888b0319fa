use Rattle.source_vm.proofs.DiskLemmas.{Stepped, GotFreezeRoom}
use Rattle.source_vm.proofs.disks.reserve_freezes.Given as goal

abbrev pub invariant-loop-disk : goal.invariant-loop-disk
invariant-loop-disk l = Stepped GotFreezeRoom l.disk-index l.initial.disks l.disks
