-- The exit status of the program for each way in which a run ends.
use Rattle.std.specs.Prelude.{ℕ}
use Rattle.migrate_server.specs.declared.status.Status.{Status}
use Rattle.migrate_server.specs.declared.status.Status.TheVariants.{Ok, Usage, ReadFault, JournalFault, WriteFault, StrangeJournal, InputLimit, JournalFull, NoMemory}

abbrev pub status_code : Status → ℕ
status_code Ok = 0
status_code Usage = 1
status_code ReadFault = 2
status_code JournalFault = 3
status_code WriteFault = 4
status_code (StrangeJournal _) = 5
status_code InputLimit = 6
status_code JournalFull = 7
status_code NoMemory = 8
