use Rattle.std.proofs.Common.{arith}
use Rattle.migrate_server.specs.declared.written_disk.WrittenDisk.{WrittenDisk}
use Rattle.migrate_server.proofs.DiskLemmas.{length-frozen, areas_frozen, is_frozen}
use Rattle.migrate_server.proofs.written_disk.WrittenDisk.new.Goals as goal

pub returns-in-Ok-clause-long : goal.returns-in-Ok-clause-long
returns-in-Ok-clause-long c =
    let disk : WrittenDisk =
    record { source = c.in_ok-source.source; allocated = c.in-Ok.allocated } in
    length-frozen c.args.capacity c.args.writes.now disk c.requires c.in_ok-source.ensures

pub returns-in-Ok-clause-frozen : goal.returns-in-Ok-clause-frozen
returns-in-Ok-clause-frozen c =
    let disk : WrittenDisk =
    record { source = c.in_ok-source.source; allocated = c.in-Ok.allocated } in
    let areas = areas_frozen c.args.capacity c.args.writes.now disk.source disk.allocated
    c.in_ok-source.ensures c.in-Ok.ensures.ok in
    is_frozen c.args.capacity c.args.writes.now disk (omega arith) c.requires c.in_ok-source.ensures
    areas
