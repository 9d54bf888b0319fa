use Rattle.std.proofs.Common.{◌∙◌}
use Rattle.fleet.proofs.Logs.{log_is, same_is_nothing, later_log}
use Rattle.fleet.proofs.Found.{lowers_what_was_lifted}
use Rattle.fleet.proofs.laws.lowers_what_was_lifted.Goals as goal

pub returns-clause-lowers : goal.returns-clause-lowers
returns-clause-lowers c = lowers_what_was_lifted

pub returns-clause-same : goal.returns-clause-same
returns-clause-same c = λ number vm fleet is.
    log_is number vm fleet is vm.log ∙ same_is_nothing number vm fleet is

pub returns-clause-later : goal.returns-clause-later
returns-clause-later c = later_log
