use Rattle.std.proofs.Common.{◌≡◌, ◌+◌, ◌≤◌, ◌^◌, ◌<◌, length, take, drop, ap, ◌∙◌, arith}
use Rattle.std.proofs.lemmas.Grind.{common_steps}
use Rattle.std.proofs.lemmas.List.{length-take-le, length-drop}
use Rattle.std.specs.Prelude.{replicate}
use Rattle.sector_model.specs.Sector.{zero_sector}
use Rattle.target_volume.specs.Volume.{after_write, after_zero}
use Rattle.migrate_server.specs.WrittenDisk.{frozen_sectors}
use Rattle.migrate_server.proofs.Copying.{copied_more, copied_zeros, cleared}
use Rattle.migrate_server.proofs.copy.copy_full.Goals as goal
use Rattle.migrate_server.proofs.copy.copy_full.Goals.{then-piece+in_ok-write, else-piece+in_ok-zero}

pub loop-at-preserved : goal.loop-at-preserved
loop-at-preserved g c =
    let V = g.V.Volume.state in
    let disk = frozen_sectors c.args.disk.now in
    let at = c.loop-at.at in
    let n = c.next_piece-piece.result.count in
    let within : at + n ≤ length disk = omega arith in
    let fits : at + n < 2 ^ 64 = omega arith in
    record {
      state = elim c.if-piece.branch [
        | then-piece+in_ok-write w ↦
            let xs = w.read.new.buffer in
            let is : xs ≡ take n (drop at disk) = grind (arith, common_steps) in
            let long = ap length is
            ∙ length-take-le n (drop at disk) (let e = length-drop at disk in omega arith) in
            ap V w.volume-is ∙ w.in_ok-write.ensures.written
            ∙ ap (after_write at xs) c.loop-at.invariant.state
            ∙ copied_more disk xs at n (V c.args.volume.now) within fits is long
        | else-piece+in_ok-zero w ↦
            let is : replicate n zero_sector ≡ take n (drop at disk) =
            cleared disk at n within
            (λ s l h. c.requires.frozen.clear s (omega arith)
            (c.next_piece-piece.ensures.gap w.if-piece.false s l h)) in
            ap V w.volume-is ∙ w.in_ok-zero.ensures.zeroed
            ∙ ap (after_zero at n) c.loop-at.invariant.state
            ∙ copied_zeros disk at n (V c.args.volume.now) within fits is
      ];
      within = c.next_piece-piece.ensures.inside;
    }
