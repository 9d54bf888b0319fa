use Rattle.log_model.specs.declared.entry.Act.TheVariants.{Remove}
use Rattle.source_vm.proofs.DiskLemmas.{Stepped, Took}
use Rattle.source_vm.proofs.disks.merge_all.Given as goal

abbrev pub invariant-loop-disk : goal.invariant-loop-disk
invariant-loop-disk l = Stepped (Took (Remove l.id)) l.disk-index l.initial.disks l.disks
