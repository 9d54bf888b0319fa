-- The numbers of a journal's refusals.
use Rattle.std.specs.Prelude.{ℕ, Option, Some, None}
use Rattle.journal.specs.declared.refusal.JournalRefused.{JournalRefused}
use Rattle.journal.specs.declared.refusal.JournalRefused.TheVariants.{DiskFault, NotAJournal, BadRecord, Full, NoMemory}

abbrev pub refusal_number : JournalRefused → Option ℕ
refusal_number (DiskFault at) = Some 1
refusal_number NotAJournal = Some 2
refusal_number (BadRecord number) = Some 3
refusal_number (Full length) = Some 4
refusal_number NoMemory = None
