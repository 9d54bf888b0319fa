use Rattle.std.proofs.Common.{◌≡◌, ℕ, ◌+◌, [], List, take, get_or, subst, sym}
use Rattle.std.proofs.lemmas.List.{take_all}
use Rattle.source_disk.specs.SourceDisk.{SourceDiskState, fresh}
use Rattle.source_vm.specs.Disks.{AreDisks}
use Rattle.source_vm.proofs.DiskLemmas.{one_made}
use Rattle.source_vm.proofs.disks.new_disks.Goals as goal

pub loop-disk-preserved : goal.loop-disk-preserved
loop-disk-preserved c =
    let n : ℕ = c.loop-disk.disk in
    let caps : List ℕ = c.args.capacities.now in
    let made : c.in_ok-new.field-0 ≡ fresh c.args.machine n (get_or caps n 0) =
    c.in_ok-new.ensures.fresh in
    subst (λ (xs : List SourceDiskState). AreDisks c.args.machine (take (n + 1) caps) [] xs)
    (sym c.in_ok-push.ensures.items)
    (one_made c.args.machine n caps c.loop-disk.disks.items c.in_ok-new.field-0
    c.loop-disk.invariant c.loop-disk-test.true made c.in_ok-new.ensures.stands)

pub returns : goal.returns
returns c =
    subst (λ xs. AreDisks c.args.machine xs [] c.loop-disk.disks.items)
    (take_all c.loop-disk.disk c.args.capacities.now c.loop-disk-test.false)
    c.loop-disk.invariant
