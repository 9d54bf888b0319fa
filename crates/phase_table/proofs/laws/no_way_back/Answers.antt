use Rattle.phase_table.proofs.Walks.{no_back_edge_after, phases_rise_after}
use Rattle.phase_table.proofs.laws.no_way_back.Goals as goal

pub returns-clause-no_back_edge : goal.returns-clause-no_back_edge
returns-clause-no_back_edge c = no_back_edge_after

pub returns-clause-rising : goal.returns-clause-rising
returns-clause-rising c = phases_rise_after
