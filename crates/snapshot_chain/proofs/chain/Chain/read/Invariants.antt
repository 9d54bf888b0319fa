-- The ledger is the one that the blank opens.
use Rattle.snapshot_chain.proofs.chain.Chain.read.Given as goal

abbrev pub ghosts-read_counted : goal.ghosts-read_counted
ghosts-read_counted a = record { name = a.blank.name; parts = a.blank.parts }
