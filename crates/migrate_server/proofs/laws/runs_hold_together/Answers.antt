use Rattle.migrate_server.proofs.Chains.{fresh_holds_together, unopened_hold_together, served_hold_together, runs_find_one, crashes_hold_together, none_is_strange, fleet_agrees}
use Rattle.migrate_server.proofs.laws.runs_hold_together.Goals as goal

pub returns-clause-unopened : goal.returns-clause-unopened
returns-clause-unopened c = unopened_hold_together

pub returns-clause-served : goal.returns-clause-served
returns-clause-served c = served_hold_together

pub returns-clause-crashes : goal.returns-clause-crashes
returns-clause-crashes c = crashes_hold_together

pub returns-clause-none : goal.returns-clause-none
returns-clause-none c = none_is_strange c.strange_at_one_record.ensures.none

pub returns-clause-agree : goal.returns-clause-agree
returns-clause-agree c = fleet_agrees c.agreeing_records_are_taken.ensures.agree

pub returns-clause-fresh : goal.returns-clause-fresh
returns-clause-fresh c = fresh_holds_together

pub returns-clause-find : goal.returns-clause-find
returns-clause-find c = runs_find_one
