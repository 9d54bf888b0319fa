use Rattle.log_model.proofs.LegalLogs.{prefixes_are_legal, legal_grows, legal_grew, legal_for_each_disk}
use Rattle.log_model.proofs.laws.legal_logs.Goals as goal

pub returns-clause-prefixes : goal.returns-clause-prefixes
returns-clause-prefixes c = prefixes_are_legal

pub returns-clause-grows : goal.returns-clause-grows
returns-clause-grows c = legal_grows

pub returns-clause-each_disk : goal.returns-clause-each_disk
returns-clause-each_disk c = legal_for_each_disk

pub returns-clause-grew : goal.returns-clause-grew
returns-clause-grew c = legal_grew
