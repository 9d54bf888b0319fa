-- Why a controller isn't reopened, and the number of that. Want of memory has none, whether the
-- journal met it or the fold of its records.
use Rattle.std.specs.Prelude.{ℕ, Option, Some, None}
use Rattle.journal.specs.declared.refusal.JournalRefused.{JournalRefused}
use Rattle.journal.specs.declared.refusal.JournalRefused.TheVariants.{DiskFault, NotAJournal, BadRecord, Full, NoMemory as Wanting}
use Rattle.restart.specs.declared.refusal.ReopenRefused.{ReopenRefused}
use Rattle.restart.specs.declared.refusal.ReopenRefused.TheVariants.{Journal, Strange, NoMemory}

abbrev pub refusal_number : ReopenRefused → Option ℕ
refusal_number (Journal why) = Some 1
refusal_number (Strange number) = Some 2
refusal_number NoMemory = None

-- what is told where the journal refuses
abbrev pub told_of : JournalRefused → ReopenRefused
told_of (DiskFault at) = Journal (DiskFault at)
told_of NotAJournal = Journal NotAJournal
told_of (BadRecord number) = Journal (BadRecord number)
told_of (Full len) = Journal (Full len)
told_of Wanting = NoMemory
