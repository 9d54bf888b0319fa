use Rattle.std.proofs.Common.{◌≡◌, ◌⊎◌, ◌≤◌, ◌-◌, ◌%◌, length, take}
use Rattle.std.specs.Option.{ForSome}
use Rattle.journal.specs.declared.format.TheConstants.{PIECE_BYTES}
use Rattle.journal.proofs.device.read_pieces.Given as goal

abbrev pub invariant-loop-at : goal.invariant-loop-at
invariant-loop-at g l = record {
  within : l.at ≤ length l.bytes;
  piece : (l.at % PIECE_BYTES ≡ 0) ⊎ (l.at ≡ length l.bytes);
  kept : (g.D.Disk.state l.disk).contents ≡ (g.D.Disk.state l.initial.disk).contents;
  faults : (g.D.Disk.state l.disk).faults ≡ (g.D.Disk.state l.initial.disk).faults;
  read : ForSome (g.D.Disk.state l.initial.disk).contents
      (λ c. take l.at l.bytes ≡ take l.at c.bytes);
}

abbrev pub decreases-loop-at : goal.decreases-loop-at
decreases-loop-at g l = length l.initial.bytes - l.at
