-- The ledger is the one that the blank opens.
use Rattle.snapshot_chain.proofs.tests.a_read_of_a_large_disk_looks_up_four_pages_at_most.Given as goal

abbrev pub ghosts-counted_read_of_a_large_disk : goal.ghosts-counted_read_of_a_large_disk
ghosts-counted_read_of_a_large_disk g a = record { name = a.blank.name; parts = a.blank.parts }
