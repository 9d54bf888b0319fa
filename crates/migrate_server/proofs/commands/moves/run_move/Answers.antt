use Rattle.migrate_server.specs.WrittenDisk.{frozen_sectors}
use Rattle.migrate_server.specs.commands.Moves.{move_refusal}
use Rattle.migrate_server.proofs.Moving.{not_refused, moved, name_taken, volume_failed}
use Rattle.migrate_server.proofs.commands.moves.run_move.Goals as goal

pub returns-in-Ok-copy_to_new_volume-clause-answer :
    goal.returns-in-Ok-copy_to_new_volume-clause-answer
returns-in-Ok-copy_to_new_volume-clause-answer g c =
    let S = g.T.VolumeStore.state in
    let none = not_refused (move_refusal c.args.sectors c.args.writes.now) _
    c.in_default.ensures.refused in
    let copied = c.in-Ok-copy_to_new_volume.ensures in
    moved c.args.name c.args.sectors c.args.writes.now (frozen_sectors c.in-Ok.disk)
    (S c.args.store.now) (S c.copy_to_new_volume.new.store) none c.in-Ok.ensures.sectors
    copied.0 copied.1

pub returns-in-Err-Exists-clause-answer : goal.returns-in-Err-Exists-clause-answer
returns-in-Err-Exists-clause-answer g c =
    let S = g.T.VolumeStore.state in
    let none = not_refused (move_refusal c.args.sectors c.args.writes.now) _
    c.in_default.ensures.refused in
    name_taken c.args.name c.args.sectors c.args.writes.now (frozen_sectors c.in-Ok.disk)
    (S c.args.store.now) (S c.copy_to_new_volume.new.store) _ none c.in-Err-Exists.field-0-is
    c.in-Err-Exists.ensures

pub returns-in-Err-Failed-clause-answer : goal.returns-in-Err-Failed-clause-answer
returns-in-Err-Failed-clause-answer g c =
    let S = g.T.VolumeStore.state in
    let none = not_refused (move_refusal c.args.sectors c.args.writes.now) _
    c.in_default.ensures.refused in
    volume_failed c.args.name c.args.sectors c.args.writes.now (frozen_sectors c.in-Ok.disk)
    (S c.args.store.now) (S c.copy_to_new_volume.new.store) _ none c.in-Err-Failed.field-0-is
    c.in-Err-Failed.ensures
