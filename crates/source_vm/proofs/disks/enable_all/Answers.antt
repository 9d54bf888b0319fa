use Rattle.std.proofs.Common.{List, ap}
use Rattle.log_model.specs.declared.entry.Act.TheVariants.{Enable}
use Rattle.source_disk.specs.SourceDisk.{SourceDiskState, machine_of, number_of, capacity_of}
use Rattle.source_vm.proofs.DiskLemmas.{Took, none_stepped, one_more, all_took}
use Rattle.source_vm.proofs.disks.enable_all.Goals as goal

pub loop-disk-init : goal.loop-disk-init
loop-disk-init c = none_stepped (Took Enable) c.args.disks.now

pub loop-disk-preserved : goal.loop-disk-preserved
loop-disk-preserved c =
    let old : List SourceDiskState = c.args.disks.now in
    one_more (Took Enable) c.loop-disk.disk-index old c.loop-disk.disks c.disk-item.result
    c.enable.new.self c.loop-disk.invariant c.loop-disk-test.true
    (record {
      place = record {
        machine = ap (λ (d : SourceDiskState). machine_of d) c.enable.ensures.enabled;
        number = ap (λ (d : SourceDiskState). number_of d) c.enable.ensures.enabled;
        size = ap (λ (d : SourceDiskState). capacity_of d) c.enable.ensures.enabled;
      };
      takes = c.enable.ensures.stands;
    })

pub returns : goal.returns
returns c = all_took Enable c.loop-disk.disk-index c.args.disks.now c.loop-disk.disks
    c.loop-disk.invariant c.loop-disk-test.false
