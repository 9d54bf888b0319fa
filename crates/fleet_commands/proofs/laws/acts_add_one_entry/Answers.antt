use Rattle.fleet_commands.proofs.LogLemmas.{acts_add_there, hosts_add_none, vms_add_none, acts_keep_in}
use Rattle.fleet_commands.proofs.laws.acts_add_one_entry.Goals as goal

pub returns-clause-acts : goal.returns-clause-acts
returns-clause-acts c = acts_add_there

pub returns-clause-hosts : goal.returns-clause-hosts
returns-clause-hosts c = hosts_add_none

pub returns-clause-vms : goal.returns-clause-vms
returns-clause-vms c = vms_add_none

pub returns-clause-stay_in : goal.returns-clause-stay_in
returns-clause-stay_in c = acts_keep_in c.machines_stay_in.ensures.logs
