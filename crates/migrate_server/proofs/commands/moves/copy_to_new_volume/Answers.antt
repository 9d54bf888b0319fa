use Rattle.std.proofs.Common.{◌∙◌}
use Rattle.std.proofs.lemmas.Result.{err_from_is_err_and}
use Rattle.target_volume.specs.declared.store_refused.StoreRefused.TheVariants.{Exists, Failed}
use Rattle.migrate_server.proofs.NewVolumes.{copy_keeps, loan_found, lent_still, was_free, copied_home, failed_home}
use Rattle.migrate_server.specs.WrittenDisk.{frozen_sectors}
use Rattle.migrate_server.proofs.commands.moves.copy_to_new_volume.Goals as goal

pub keep_back-requires : goal.keep_back-requires
keep_back-requires g c =
    let V = g.T.Vol.Volume.state in
    let S = g.T.VolumeStore.state in
    let volume = V c.in_ok-volume.volume in
    let after = V c.copy_full-copied.new.volume in
    lent_still c.args.name.now c.args.sectors volume after (S c.args.store.now)
    (S c.create.new.self) c.in_ok-volume.ensures.lent
    (copy_keeps (frozen_sectors c.args.disk.now) c.copy_full-copied.result volume after
    c.copy_full-copied.ensures.copied c.copy_full-copied.ensures.failed)

pub returns-in_err-copied : goal.returns-in_err-copied
returns-in_err-copied g c =
    let V = g.T.Vol.Volume.state in
    let S = g.T.VolumeStore.state in
    let name = c.args.name.now in
    let volume = V c.in_ok-volume.volume in
    let after = V c.copy_full-copied.new.volume in
    let lent = c.in_ok-volume.ensures.lent in
    let free = was_free c.in_ok-volume.volume Exists Failed name (S c.args.store.now).volumes
    c.in_ok-volume.ensures.taken in
    let keeps = copy_keeps (frozen_sectors c.args.disk.now) c.copy_full-copied.result volume after
    c.copy_full-copied.ensures.copied c.copy_full-copied.ensures.failed in
    let found = loan_found name c.args.sectors volume (S c.args.store.now) (S c.create.new.self)
    lent in
    let back = c.keep_back.ensures.kept name _ (keeps.name ∙ lent.named) found in
    let fails = failed_home name c.args.sectors volume after (S c.args.store.now)
    (S c.create.new.self) (S c.keep_back.new.self) lent free c.in_err-copied.ensures.failed back
    c.keep_back.ensures.later in
    let p = err_from_is_err_and c.from_residual-in_err-copied.result
    c.from_residual-in_err-copied.ensures.1 in
    rw (p.1, p.2) fails

pub returns : goal.returns
returns g c =
    let V = g.T.Vol.Volume.state in
    let S = g.T.VolumeStore.state in
    let name = c.args.name.now in
    let volume = V c.in_ok-volume.volume in
    let after = V c.copy_full-copied.new.volume in
    let lent = c.in_ok-volume.ensures.lent in
    let keeps = copy_keeps (frozen_sectors c.args.disk.now) c.copy_full-copied.result volume after
    c.copy_full-copied.ensures.copied c.copy_full-copied.ensures.failed in
    let free = was_free c.in_ok-volume.volume Exists Failed name (S c.args.store.now).volumes
    c.in_ok-volume.ensures.taken in
    let found = loan_found name c.args.sectors volume (S c.args.store.now) (S c.create.new.self)
    lent in
    let back = c.keep_back.ensures.kept name _ (keeps.name ∙ lent.named) found in (
      free,
      copied_home name (frozen_sectors c.args.disk.now) c.args.sectors volume after
          (S c.args.store.now) (S c.create.new.self) (S c.keep_back.new.self) c.requires.sized lent
          c.in_ok-volume.ensures.fresh c.in_ok-copied.ensures.copied back c.keep_back.ensures.later,
    )
