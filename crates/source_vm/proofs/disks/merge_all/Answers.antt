use Rattle.std.proofs.Common.{◌≡◌, ℕ, get_or, OnOk, ap, subst, sym}
use Rattle.log_model.specs.declared.entry.Act.TheVariants.{Remove}
use Rattle.source_disk.specs.SourceDisk.{SourceDiskState, machine_of, number_of, capacity_of, after_merging, HasMergeRoom}
use Rattle.source_disk.specs.StandsFor.{Takes}
use Rattle.source_vm.proofs.DiskLemmas.{Took, none_stepped, one_more, next_is, all_took}
use Rattle.source_vm.proofs.disks.merge_all.Goals as goal

pub unwrap-requires : goal.unwrap-requires
unwrap-requires c =
    let n : ℕ = c.loop-disk.disk-index in
    c.merge.ensures.room (subst (HasMergeRoom c.args.id)
    (sym (next_is (Took (Remove c.args.id)) n c.args.disks.now c.loop-disk.disks
    c.disk-item.result c.loop-disk.invariant c.loop-disk-test.true))
    (c.requires n c.disk-item.result c.loop-disk-test.true))

pub loop-disk-init : goal.loop-disk-init
loop-disk-init c = none_stepped (Took (Remove c.args.id)) c.args.disks.now

pub loop-disk-preserved : goal.loop-disk-preserved
loop-disk-preserved c =
    let o : SourceDiskState = get_or c.loop-disk.disks c.loop-disk.disk-index c.disk-item.result in
    let d : SourceDiskState = c.merge.new.self in
    let ok : d ≡ after_merging c.args.id o =
    subst (λ r. OnOk r (d ≡ after_merging c.args.id o)) c.unwrap.ensures c.merge.ensures.ok in
    one_more (Took (Remove c.args.id)) c.loop-disk.disk-index c.args.disks.now c.loop-disk.disks
    c.disk-item.result d c.loop-disk.invariant c.loop-disk-test.true
    (record {
      place = record {
        machine = ap (λ (x : SourceDiskState). machine_of x) ok;
        number = ap (λ (x : SourceDiskState). number_of x) ok;
        size = ap (λ (x : SourceDiskState). capacity_of x) ok;
      };
      takes = subst (λ r. OnOk r (Takes (Remove c.args.id) o d)) c.unwrap.ensures
          c.merge.ensures.stands;
    })

pub returns : goal.returns
returns c = all_took (Remove c.args.id) c.loop-disk.disk-index c.args.disks.now c.loop-disk.disks
    c.loop-disk.invariant c.loop-disk-test.false
