-- What the entries so far say of the disk.
use Rattle.std.proofs.Common.{◌≡◌, ◌≤◌, take, unwrap_or}
use Rattle.log_facts.specs.Disks.{id_count_of, AreCounts, IsLastReset}
use Rattle.log_facts.proofs.disks.disk_of.Given as goal

abbrev pub invariant-loop-place : goal.invariant-loop-place
invariant-loop-place l = record {
  counts : l.count ≡ id_count_of l.disk (take l.place l.log);
  few_resets : l.count.resets ≤ l.place;
  few_counted : unwrap_or l.count.counted 0 ≤ l.place;
  are : AreCounts l.disk (take l.place l.log) l.counts.items;
  reset : IsLastReset l.disk (take l.place l.log) l.last_reset;
}
