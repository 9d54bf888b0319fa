use Rattle.std.proofs.Common.{◌≡◌, List, get_or, set, ap, arith, sym, ◌∙◌, ◌<◌, length}
use Rattle.source_disk.specs.SourceDisk.{SourceDiskState, HasMergeRoom, with_merge_room, without_room, IsSameButRoom}
use Rattle.source_vm.proofs.DiskLemmas.{GotMergeRoom, none_stepped, one_more, still_disks, still_one, still_then, holds_of_all}
use Rattle.basics.proofs.Results.{where_ok, where_err}
use Rattle.source_vm.proofs.disks.reserve_merges.Goals as goal

pub loop-disk-init : goal.loop-disk-init
loop-disk-init c = none_stepped (GotMergeRoom c.args.id) c.args.disks.now

pub loop-disk-preserved : goal.loop-disk-preserved
loop-disk-preserved c =
    let o : SourceDiskState = get_or c.loop-disk.disks c.loop-disk.disk-index c.disk-item.result in
    let ok : c.reserve_merge.new.self ≡ with_merge_room c.args.id o =
    where_ok c.reserve_merge.result (sym c.is_err.ensures.value ∙ c.if-is_err.false)
    c.reserve_merge.ensures.ok in
    one_more (GotMergeRoom c.args.id) c.loop-disk.disk-index c.args.disks.now c.loop-disk.disks
    c.disk-item.result c.reserve_merge.new.self c.loop-disk.invariant c.loop-disk-test.true
    (record {
      same = ap (λ (d : SourceDiskState). without_room d) ok;
      room = ap (λ (d : SourceDiskState). d.chain.merge_room) ok;
    })

pub returns-then-is_err-clause-still : goal.returns-then-is_err-clause-still
returns-then-is_err-clause-still c =
    let now : List SourceDiskState = c.loop-disk.disks in
    let o : SourceDiskState = get_or now c.loop-disk.disk-index c.disk-item.result in
    let err : IsSameButRoom o c.reserve_merge.new.self =
    where_err c.reserve_merge.result (sym c.is_err.ensures.value ∙ c.if-is_err.true)
    c.reserve_merge.ensures.err in
    let inside : c.loop-disk.disk-index < length now =
    omega (arith, c.loop-disk-test.true, c.loop-disk.invariant.as_many) in
    still_then c.args.disks.now now (set now c.loop-disk.disk-index c.reserve_merge.new.self)
    (still_disks c.room_is_no_part.ensures (GotMergeRoom c.args.id) c.loop-disk.disk-index
    c.args.disks.now now (λ o d got. got.same) c.loop-disk.invariant)
    (still_one c.room_is_no_part.ensures c.loop-disk.disk-index now c.disk-item.result
    c.reserve_merge.new.self inside err)

pub returns-clause-still : goal.returns-clause-still
returns-clause-still c =
    still_disks c.room_is_no_part.ensures (GotMergeRoom c.args.id) c.loop-disk.disk-index
    c.args.disks.now c.loop-disk.disks (λ o d got. got.same) c.loop-disk.invariant

pub returns-clause-room : goal.returns-clause-room
returns-clause-room c =
    holds_of_all (GotMergeRoom c.args.id) (HasMergeRoom c.args.id) c.loop-disk.disk-index
    c.args.disks.now c.loop-disk.disks c.loop-disk.invariant c.loop-disk-test.false
    (λ o d got. got.room)
