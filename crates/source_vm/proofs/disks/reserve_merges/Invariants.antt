use Rattle.source_vm.proofs.DiskLemmas.{Stepped, GotMergeRoom}
use Rattle.source_vm.proofs.disks.reserve_merges.Given as goal

abbrev pub invariant-loop-disk : goal.invariant-loop-disk
invariant-loop-disk l = Stepped (GotMergeRoom l.id) l.disk-index l.initial.disks l.disks
