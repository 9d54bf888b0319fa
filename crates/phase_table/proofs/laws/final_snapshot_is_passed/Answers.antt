use Rattle.phase_table.proofs.Walks.{final_snapshot_is_passed, only_the_final_snapshot_leads_on}
use Rattle.phase_table.proofs.laws.final_snapshot_is_passed.Goals as goal

pub returns-clause-passed : goal.returns-clause-passed
returns-clause-passed c = final_snapshot_is_passed

pub returns-clause-only : goal.returns-clause-only
returns-clause-only c = only_the_final_snapshot_leads_on
