use Rattle.std.proofs.Common.{◌≡◌, ◌≤◌, length, take, arith, sym, ◌∙◌}
use Rattle.std.proofs.lemmas.Grind.{common_steps}
use Rattle.journal.proofs.Results.{if_each, at_some}
use Rattle.journal.proofs.OpenSteps.{piece_read, all_read, next_piece}
use Rattle.journal.proofs.device.read_pieces.Goals as goal

pub loop-at-preserved : goal.loop-at-preserved
loop-at-preserved g c =
    let same : length c.read_piece.new.bytes ≡ length c.loop-at.bytes = omega arith in
    record {
      within = grind (arith, common_steps);
      piece =
          rw same (next_piece c.loop-at.at c.min-end.result (length c.loop-at.bytes)
          c.loop-at.invariant.piece
          (omega arith) (omega arith));
      kept = grind (arith, common_steps);
      faults = grind (arith, common_steps);
      read = λ contents told.
          piece_read c.loop-at.at c.min-end.result c.loop-at.bytes c.read_piece.new.bytes
          contents.bytes (omega arith)
          (omega arith) (omega (arith, c.requires.all contents told))
          (c.loop-at.invariant.read contents told)
          (at_some _ _ _ (c.loop-at.invariant.kept ∙ told) c.in_ok-read_piece.ensures.given);
    }

pub returns-clause-given : goal.returns-clause-given
returns-clause-given g c =
    if_each _ _ (λ contents told.
    all_read c.loop-at.at c.loop-at.bytes contents.bytes (omega arith)
    (omega (arith, c.requires.all contents told)) (c.loop-at.invariant.read contents told))
