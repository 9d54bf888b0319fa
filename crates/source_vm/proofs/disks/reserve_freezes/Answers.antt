use Rattle.std.proofs.Common.{◌≡◌, List, set, true, ap, arith, ◌<◌, length}
use Rattle.source_disk.specs.SourceDisk.{SourceDiskState, has_freeze_room, without_room}
use Rattle.source_vm.proofs.DiskLemmas.{GotFreezeRoom, none_stepped, one_more, still_disks, still_one, still_then, holds_of_all}
use Rattle.source_vm.proofs.disks.reserve_freezes.Goals as goal

pub loop-disk-init : goal.loop-disk-init
loop-disk-init c = none_stepped GotFreezeRoom c.args.disks.now

pub loop-disk-preserved : goal.loop-disk-preserved
loop-disk-preserved c =
    one_more GotFreezeRoom c.loop-disk.disk-index c.args.disks.now c.loop-disk.disks
    c.disk-item.result c.reserve_freeze.new.self c.loop-disk.invariant c.loop-disk-test.true
    (record {
      same = ap (λ (d : SourceDiskState). without_room d) c.in_ok-reserve_freeze.ensures.ok;
      room = ap (λ (d : SourceDiskState). has_freeze_room d) c.in_ok-reserve_freeze.ensures.ok;
    })

pub returns-in_err-reserve_freeze-clause-still : goal.returns-in_err-reserve_freeze-clause-still
returns-in_err-reserve_freeze-clause-still c =
    let now : List SourceDiskState = c.loop-disk.disks in
    let inside : c.loop-disk.disk-index < length now =
    omega (arith, c.loop-disk-test.true, c.loop-disk.invariant.as_many) in
    still_then c.args.disks.now now (set now c.loop-disk.disk-index c.reserve_freeze.new.self)
    (still_disks c.room_is_no_part.ensures GotFreezeRoom c.loop-disk.disk-index c.args.disks.now now
    (λ o d got. got.same) c.loop-disk.invariant)
    (still_one c.room_is_no_part.ensures c.loop-disk.disk-index now c.disk-item.result
    c.reserve_freeze.new.self inside c.in_err-reserve_freeze.ensures.err)

pub returns-clause-still : goal.returns-clause-still
returns-clause-still c =
    still_disks c.room_is_no_part.ensures GotFreezeRoom c.loop-disk.disk-index c.args.disks.now
    c.loop-disk.disks (λ o d got. got.same) c.loop-disk.invariant

pub returns-clause-room : goal.returns-clause-room
returns-clause-room c =
    holds_of_all GotFreezeRoom (λ d. has_freeze_room d ≡ true) c.loop-disk.disk-index
    c.args.disks.now c.loop-disk.disks c.loop-disk.invariant c.loop-disk-test.false
    (λ o d got. got.room)
