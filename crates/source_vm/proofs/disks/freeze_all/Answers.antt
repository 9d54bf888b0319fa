use Rattle.std.proofs.Common.{◌≡◌, ℕ, ◌<◌, length, List, get_or, OnOk, ap, subst, sym}
use Rattle.log_model.specs.declared.entry.Owner.{Owner}
use Rattle.log_model.specs.declared.entry.Act.TheVariants.{Snap}
use Rattle.source_disk.specs.SourceDisk.{SourceDiskState, machine_of, number_of, capacity_of, after_freezing}
use Rattle.source_disk.specs.StandsFor.{Takes}
use Rattle.source_vm.specs.Disks.{CanFreeze}
use Rattle.source_vm.proofs.DiskLemmas.{TookSnap, Stepped, none_stepped, one_more, next_is, all_snapped}
use Rattle.source_vm.proofs.disks.freeze_all.Goals as goal

-- the next disk may be frozen
can_freeze : (id n : ℕ) (old new : List SourceDiskState) (item : SourceDiskState)
    → Stepped (TookSnap id) n old new → n < length old
    → ((k : ℕ) (d : SourceDiskState) → k < length old → CanFreeze id (get_or old k d))
    → CanFreeze id (get_or new n item)
can_freeze id n old new item stepped less can =
    subst (CanFreeze id) (sym (next_is (TookSnap id) n old new item stepped less)) (can n item less)

pub freeze-requires : goal.freeze-requires
freeze-requires c = (can_freeze c.args.id c.loop-disk.disk-index c.args.disks.now c.loop-disk.disks
    c.disk-item.result c.loop-disk.invariant c.loop-disk-test.true c.requires).free

pub unwrap-requires : goal.unwrap-requires
unwrap-requires c = c.freeze.ensures.room
    (can_freeze c.args.id c.loop-disk.disk-index c.args.disks.now c.loop-disk.disks
    c.disk-item.result c.loop-disk.invariant c.loop-disk-test.true c.requires).room

pub loop-disk-init : goal.loop-disk-init
loop-disk-init c = none_stepped (TookSnap c.args.id) c.args.disks.now

pub loop-disk-preserved : goal.loop-disk-preserved
loop-disk-preserved c =
    let o : SourceDiskState = get_or c.loop-disk.disks c.loop-disk.disk-index c.disk-item.result in
    let d : SourceDiskState = c.freeze.new.self in
    let ok : d ≡ after_freezing c.args.id o =
    subst (λ r. OnOk r (d ≡ after_freezing c.args.id o)) c.unwrap.ensures c.freeze.ensures.ok in
    let takes : (owner : Owner) → Takes (Snap c.args.id owner) o d =
    subst (λ r. OnOk r ((owner : Owner) → Takes (Snap c.args.id owner) o d)) c.unwrap.ensures
    c.freeze.ensures.stands in
    one_more (TookSnap c.args.id) c.loop-disk.disk-index c.args.disks.now c.loop-disk.disks
    c.disk-item.result d c.loop-disk.invariant c.loop-disk-test.true
    (λ owner. record {
      place = record {
        machine = ap (λ (x : SourceDiskState). machine_of x) ok;
        number = ap (λ (x : SourceDiskState). number_of x) ok;
        size = ap (λ (x : SourceDiskState). capacity_of x) ok;
      };
      takes = takes owner;
    })

pub returns : goal.returns
returns c = λ owner. all_snapped c.args.id c.loop-disk.disk-index c.args.disks.now c.loop-disk.disks
    c.loop-disk.invariant c.loop-disk-test.false owner
