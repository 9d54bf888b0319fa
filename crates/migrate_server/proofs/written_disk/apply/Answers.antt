use Rattle.std.proofs.Common.{◌≡◌, replicate, arith}
use Rattle.std.proofs.lemmas.Grind.{common_steps}
use Rattle.sector_model.specs.Sector.{filled}
use Rattle.migrate_server.proofs.DiskLemmas.{written_more}
use Rattle.migrate_server.proofs.written_disk.apply.Goals as goal

pub returns-in-Ok : goal.returns-in-Ok
returns-in-Ok c = λ size writes written.
    let w = c.args.write.now in
    let same : c.fill.new.self ≡ replicate w.count (filled w.fill) = grind (arith, common_steps) in
    written_more size writes w c.fill.new.self c.args.disk.now c.write.new.self same
    c.in-Ok.ensures.ok written
