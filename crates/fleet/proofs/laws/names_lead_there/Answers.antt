use Rattle.fleet.proofs.Found.{names_lead_to_hosts, names_lead_to_vms}
use Rattle.fleet.proofs.Logs.{is_within}
use Rattle.fleet.proofs.laws.names_lead_there.Goals as goal

pub returns-clause-hosts : goal.returns-clause-hosts
returns-clause-hosts c = names_lead_to_hosts

pub returns-clause-vms : goal.returns-clause-vms
returns-clause-vms c = names_lead_to_vms

pub returns-clause-within : goal.returns-clause-within
returns-clause-within c = is_within
