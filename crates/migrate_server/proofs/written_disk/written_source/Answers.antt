use Rattle.std.proofs.Common.{◌≡◌, ◌++◌, length, take, drop, arith, length-append, length-drop}
use Rattle.std.proofs.lemmas.List.{length-take}
use Rattle.migrate_server.proofs.DiskLemmas.{written_at}
use Rattle.migrate_server.proofs.written_disk.written_source.Goals as goal

pub loop-write-preserved : goal.loop-write-preserved
loop-write-preserved c =
    let buffer = c.loop-write.buffer in
    let sectors = c.apply.new.buffer in
    let writes = c.args.writes.now in
    let i = c.loop-write.write-index in
    let long = length-take buffer.len (sectors ++ drop (length sectors) buffer.items) in
    let both = length-append sectors (drop (length sectors) buffer.items) in
    let rest = length-drop (length sectors) buffer.items in
    let kept : length (take buffer.len (sectors ++ drop (length sectors) buffer.items))
    ≡ length buffer.items = omega (arith, long, both, rest) in
    record {
      room = λ k d less. omega (arith, kept, c.loop-write.invariant.room k d less);
      written = written_at c.args.capacity writes i _ c.apply.new.disk c.loop-write-test.true
          (c.in_ok-apply.ensures c.args.capacity (take i writes) c.loop-write.invariant.written);
    }
