use Rattle.std.proofs.Common.{◌≡◌, ◌≤◌, List, Some, length, sym, ap, ◌∙◌, arith}
use Rattle.std.specs.List.{slice_range}
use Rattle.sector_model.specs.Run.{end_of}
use Rattle.sector_model.specs.VolumeContents.{volume_written}
use Rattle.sector_model.specs.declared.sector.Sector.{Sector}
use Rattle.log_model.specs.declared.link.Snapped.{Snapped}
use Rattle.warm_core.specs.declared.stage_state.StageState.{StageState}
use Rattle.warm_core.specs.StageState.{MayCopy, with_piece}
use Rattle.warm_core.specs.Staged.{disk_at, with_copy}
use Rattle.warm_core.specs.DiskWorld.{world_of}
use Rattle.warm_core.specs.World.{World, IsSound}
use Rattle.warm_core.specs.Events.{Runs}
use Rattle.sector_model.specs.declared.run.Run.{Run}
use Rattle.warm_core.proofs.Stages.{length-slice, length-disk_at}
use Rattle.warm_core.proofs.Worlds.{by_stage-is}
use Rattle.warm_core.proofs.EffectLemmas.{order-of, sized-of, runs-at}
use Rattle.warm_core.proofs.effects.copy.Goals as goal

pub read_frozen-requires-clause-snap : goal.read_frozen-requires-clause-snap
read_frozen-requires-clause-snap c =
    c.requires.sound.sound.snap_is c.in-Some-Some.snap c.in-Some-Some.is-0

pub read_frozen-requires-clause-within : goal.read_frozen-requires-clause-within
read_frozen-requires-clause-within c =
    let w : World = world_of c.args.world.now in
    let t = c.in-Some-Some.stage in
    let run = c.args.run in
    let may = runs-at w (λ blocks snap t. MayCopy blocks run t) c.in-Some-Some.snap t
    c.in-Some-Some.is-0 c.in-Some-Some.is-1 c.requires.happens in
    let end = may.piece.within in
    let within = (order-of w t c.requires.sound.sound c.in-Some-Some.is-1).within in
    let sized = sized-of w t c.requires.sound.sound c.in-Some-Some.is-1 in
    omega (arith, end, within, sized)

-- as many sectors as the run has
read-long : (w : World) (s : Snapped) (run : Run) (xs : List Sector) → IsSound w
    → end_of run ≤ w.capacity
    → xs ≡ slice_range (disk_at w.capacity w.disk s.mark w.log) run.first (end_of run)
    → length xs ≡ run.count
read-long w s run xs sound within same =
    let whole = length-disk_at w.capacity w.disk s.mark w.log sound.legal in
    ap (λ (ys : List Sector). length ys) same
    ∙ length-slice (disk_at w.capacity w.disk s.mark w.log) run.first run.count
    (omega (arith, within, whole))

-- the piece's facts
pub record Piece (w : World) (t : StageState) (run : Run) : Type 0 where
  pub some : 1 ≤ run.count
  pub within : end_of run ≤ w.capacity

piece-of : (w : World) (s : Snapped) (t : StageState) (run : Run) → IsSound w → w.snap ≡ Some s
    → w.stage ≡ Some t → Runs w (λ blocks snap t. MayCopy blocks run t) → Piece w t run
piece-of w s t run sound one two happens =
    let may = runs-at w (λ blocks snap t. MayCopy blocks run t) s t one two happens in
    let end = may.piece.within in
    let within = (order-of w t sound two).within in
    let sized = sized-of w t sound two in
    record { some = may.piece.some; within = omega (arith, end, within, sized) }

pub write-requires-clause-some : goal.write-requires-clause-some
write-requires-clause-some c =
    let w : World = world_of c.args.world.now in
    let s = c.in-Some-Some.snap in
    let t = c.in-Some-Some.stage in
    let run = c.args.run in
    let piece = piece-of w s t run c.requires.sound.sound c.in-Some-Some.is-0 c.in-Some-Some.is-1
    c.requires.happens in
    let long = read-long w s run c.as_slice.result.now c.requires.sound.sound piece.within
    (c.as_slice.ensures.value ∙ c.in_ok-sectors.ensures) in
    let some = piece.some in omega (arith, long, some)

pub write-requires-clause-within : goal.write-requires-clause-within
write-requires-clause-within c =
    let w : World = world_of c.args.world.now in
    let s = c.in-Some-Some.snap in
    let t = c.in-Some-Some.stage in
    let run = c.args.run in
    let piece = piece-of w s t run c.requires.sound.sound c.in-Some-Some.is-0 c.in-Some-Some.is-1
    c.requires.happens in
    let long = read-long w s run c.as_slice.result.now c.requires.sound.sound piece.within
    (c.as_slice.ensures.value ∙ c.in_ok-sectors.ensures) in
    let within = piece.within in omega (arith, long, within)

pub copied-requires-clause-small : goal.copied-requires-clause-small
copied-requires-clause-small c =
    let w : World = world_of c.args.world.now in
    let sized = sized-of w c.in-Some-Some.stage c.requires.sound.sound c.in-Some-Some.is-1 in
    let small = c.write.ensures.small in
    let same = ap (λ (x : World). x.capacity) (c.in_ok-write.ensures.written) in
    omega (arith, sized, small, same)

pub copied-requires-clause-order : goal.copied-requires-clause-order
copied-requires-clause-order c =
    order-of (world_of c.args.world.now) c.in-Some-Some.stage c.requires.sound.sound
    c.in-Some-Some.is-1

pub returns-clause-ok : goal.returns-clause-ok
returns-clause-ok c =
    let w : World = world_of c.args.world.now in
    let s = c.in-Some-Some.snap in
    let t = c.in-Some-Some.stage in
    let run = c.args.run in
    let xs : List Sector = c.as_slice.result.now in
    let read = c.as_slice.ensures.value ∙ c.in_ok-sectors.ensures in
    let step : Snapped → StageState → World → World =
    λ snap t w. record w {
      volume = with_copy w.capacity w.disk snap.mark w.log run w.volume;
      stage = Some (with_piece run t);
    } in
    record {
      effect = ap (λ (x : World). record x { stage = Some c.copied.new.self })
          c.in_ok-write.ensures.written
          ∙ ap (λ (t : StageState). record w
          { volume = volume_written run.first xs w.volume; stage = Some t })
          c.copied.ensures.counted
          ∙ ap (λ (ys : List Sector). record w
          { volume = volume_written run.first ys w.volume; stage = Some (with_piece run t) })
          read
          ∙ sym (by_stage-is step w s t
          (record { snap = c.in-Some-Some.is-0; stage = c.in-Some-Some.is-1 }));
      within = c.in_ok-write.ensures.loose;
    }
