use Rattle.log_model.proofs.SnapMarks.{snaps_have_their_marks, each_was_taken, marks_ascend, live_was_taken}
use Rattle.log_model.proofs.laws.snapshots_have_their_marks.Goals as goal

pub returns-clause-marks : goal.returns-clause-marks
returns-clause-marks c = snaps_have_their_marks

pub returns-clause-each : goal.returns-clause-each
returns-clause-each c = each_was_taken

pub returns-clause-ascend : goal.returns-clause-ascend
returns-clause-ascend c = marks_ascend

pub returns-clause-live : goal.returns-clause-live
returns-clause-live c = live_was_taken
