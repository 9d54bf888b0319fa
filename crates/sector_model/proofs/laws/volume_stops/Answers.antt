use Rattle.sector_model.proofs.Volumes.{stop_leaves_flushed, stop_leaves_others, each_is_a_stop, found_are_read, differs_in_a_row}
use Rattle.sector_model.proofs.laws.volume_stops.Goals as goal

pub returns-clause-nothing : goal.returns-clause-nothing
returns-clause-nothing c = stop_leaves_flushed

pub returns-clause-others : goal.returns-clause-others
returns-clause-others c = stop_leaves_others

pub returns-clause-each : goal.returns-clause-each
returns-clause-each c = each_is_a_stop

pub returns-clause-in_order : goal.returns-clause-in_order
returns-clause-in_order c = found_are_read

pub returns-clause-in_a_row : goal.returns-clause-in_a_row
returns-clause-in_a_row c = differs_in_a_row
