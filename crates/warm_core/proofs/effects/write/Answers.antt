use Rattle.std.proofs.Common.{◌≡◌, ◌+◌, ◌≤◌, List, length, ap, ◌∙◌, arith}
use Rattle.sector_model.specs.LooseRuns.{volume_of}
use Rattle.sector_model.specs.VolumeContents.{VolumeContents, volume_written}
use Rattle.sector_model.specs.declared.run.Run.{Run}
use Rattle.sector_model.specs.declared.sector.Sector.{Sector}
use Rattle.sector_model.proofs.LooseRuns.{loose_runs_grow}
use Rattle.warm_core.specs.DiskWorld.{world_of}
use Rattle.warm_core.specs.World.{World}
use Rattle.warm_core.proofs.effects.write.Goals as goal

pub returns-clause-written : goal.returns-clause-written
returns-clause-written c =
    let old = c.args.world.now in
    let w : World = world_of old in
    let new : List Run = c.in_ok-world.field-0 in
    let xs : List Sector = c.args.sectors.now in
    let fits : c.args.first + length xs ≤ length old.volume =
    omega (arith, c.requires.within, c.requires.sized) in
    let same : volume_of c.replace.new.self new
    ≡ volume_written c.args.first xs (volume_of old.volume old.loose) =
    ap (λ (ys : List Sector). volume_of ys new) c.replace.ensures
    ∙ loose_runs_grow old.volume old.loose new c.args.first xs fits (c.in_ok-world.ensures.members)
    in
    ap (λ (v : VolumeContents). record w { volume = v }) same

pub returns-clause-loose : goal.returns-clause-loose
returns-clause-loose c =
    c.in_ok-world.ensures.within c.args.world.now.capacity c.requires.loose c.requires.within
