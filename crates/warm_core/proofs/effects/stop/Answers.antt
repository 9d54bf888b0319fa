use Rattle.std.proofs.Common.{◌≡◌, Bool, List, length, ap, ◌∙◌}
use Rattle.sector_model.specs.LooseRuns.{volume_of, flags_of}
use Rattle.sector_model.specs.VolumeContents.{VolumeContents, volume_stopped, with_found}
use Rattle.sector_model.specs.declared.sector.Sector.{Sector}
use Rattle.sector_model.proofs.Volumes.{length-with_found}
use Rattle.warm_core.specs.declared.event.Event.TheVariants.{Stop}
use Rattle.warm_core.specs.DiskWorld.{world_of}
use Rattle.warm_core.specs.World.{World}
use Rattle.warm_core.specs.Events.{after}
use Rattle.warm_core.proofs.effects.stop.Goals as goal

pub returns : goal.returns
returns c =
    let old = c.args.world.now in
    let filling : List Sector = c.args.filling.now in
    let w : World = after (Stop filling) (world_of old) in
    let flags : List Bool = flags_of (length old.volume) old.loose in
    let filled : c.take_found.new.self ≡ with_found flags old.volume filling =
    c.take_found.ensures ∙ ap (λ (xs : List Sector). with_found flags old.volume xs)
    c.as_slice.ensures in
    let long : length c.take_found.new.self ≡ length old.volume =
    ap (λ (xs : List Sector). length xs) filled ∙ length-with_found flags old.volume filling in
    let same : volume_of c.take_found.new.self old.loose
    ≡ volume_stopped filling (volume_of old.volume old.loose) =
    ap (λ n. record { sectors = c.take_found.new.self; loose = flags_of n old.loose }) long
    ∙ ap (λ (xs : List Sector). record { sectors = xs; loose = flags }) filled in
    record {
      effect = ap (λ (v : VolumeContents). record w { volume = v }) same;
      within = c.requires.sound.within;
    }
