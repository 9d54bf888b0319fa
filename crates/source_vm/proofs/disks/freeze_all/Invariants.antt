use Rattle.source_vm.proofs.DiskLemmas.{Stepped, TookSnap}
use Rattle.source_vm.proofs.disks.freeze_all.Given as goal

abbrev pub invariant-loop-disk : goal.invariant-loop-disk
invariant-loop-disk l = Stepped (TookSnap l.id) l.disk-index l.initial.disks l.disks
