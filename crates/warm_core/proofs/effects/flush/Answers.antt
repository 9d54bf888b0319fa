use Rattle.std.proofs.Common.{List, [], option_map, sym, ap, subst, arith}
use Rattle.sector_model.specs.VolumeContents.{VolumeContents}
use Rattle.sector_model.specs.declared.run.Run.{Run}
use Rattle.sector_model.proofs.LooseRuns.{no_loose_runs}
use Rattle.warm_core.specs.declared.disk_world.DiskWorld.{DiskWorld}
use Rattle.warm_core.specs.declared.event.Event.TheVariants.{Flushed}
use Rattle.warm_core.specs.DiskWorld.{world_of, Leaves}
use Rattle.warm_core.specs.World.{World}
use Rattle.warm_core.specs.Events.{after}
use Rattle.warm_core.specs.StageState.{at_its_end}
use Rattle.warm_core.proofs.effects.flush.Goals as goal

pub returns : goal.returns
returns c =
    let old = c.args.world.now in
    let w : World = after Flushed (world_of old) in
    let without : Leaves Flushed old
    (record old { loose = []; stage = option_map at_its_end old.stage }) = record {
      effect = ap (λ (v : VolumeContents). record w { volume = v })
          (no_loose_runs old.volume old.loose);
      within = λ k d less. absurd (omega (arith, less));
    } in
    subst (λ (rs : List Run). Leaves Flushed old (record c.end_stage.new.world { loose = rs }))
    (sym c.new.ensures)
    (subst (λ (d : DiskWorld). Leaves Flushed old (record d { loose = [] }))
    (sym c.end_stage.ensures) without)
