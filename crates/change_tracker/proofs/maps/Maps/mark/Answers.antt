use Rattle.std.proofs.Common.{◌+◌, arith}
use Rattle.change_tracker.specs.Maps.{is_met_in}
use Rattle.change_tracker.proofs.Marking.{met_before, met_before_more, touched_then, untouched_before, room_kept}
use Rattle.change_tracker.proofs.maps.Maps.mark.Goals as goal

pub loop-word-preserved : goal.loop-word-preserved
loop-word-preserved c = record {
  touched = touched_then (met_before c.loop-word.word c.args.run)
      (is_met_in c.loop-word.word c.args.run) (met_before (c.loop-word.word + 1) c.args.run)
      c.args.freezes _ _ _ c.loop-word.invariant.touched c.mark_word.ensures.touched
      (met_before_more c.args.run c.loop-word.word);
  later = λ old. c.mark_word.ensures.later (c.loop-word.invariant.later old);
  room = λ b from met. room_kept c.args.freezes b _ _
      (untouched_before (is_met_in c.loop-word.word c.args.run) c.args.freezes _ _
      (c.args.freezes + 1) b c.mark_word.ensures.touched) c.mark_word.ensures.kept
      (c.loop-word.invariant.room b (omega (arith, from)) met);
}
