-- What a journal's value tells of a failure: the refused record itself, of which the field holds
-- a snapshot that contracts alone see.
use Rattle.journal.specs.Journal.{Failure}
use Rattle.journal.specs.declared.failure.Failure.{Failure as KeptFailure}

abbrev pub failure_of : KeptFailure → Failure
failure_of f = record { at = f.at; refused = f.refused.value }
