-- A disk that stops at a write, a cut or a sync, as a machine does that loses its power.
use Rattle.std.specs.Prelude.{◌≡◌, ◌⊎◌, ℕ, ◌+◌, ◌/◌, ◌==◌, nat_le, Bool, ◌&&◌, List, length, take, Result}
use Rattle.basics.specs.Faults.{HasCause, counted_by}
use Rattle.edge_traits.specs.Disk.{DiskContents, DiskState, IsBrokenWrite, after_write}

pub record StopDiskState (D : Type 0) : Type 0 where
  pub inner : D
  -- the number, from 1, of the write, cut or sync at which it stops
  pub stop : ℕ
  -- how many of these there were, and how many calls failed that its inner disk didn't fail; both
  -- end at 2^64 - 1
  pub made : ℕ
  pub faults : ℕ

-- what it is as a disk, where its inner one is that
abbrev pub stop_state : {D : Type 0} → (inner : DiskState) → StopDiskState D → DiskState
stop_state inner s = record {
  contents = inner.contents;
  faults = counted_by s.faults inner.faults;
}

-- a disk that was not called yet
abbrev pub going : {D : Type 0} → (inner : D) (stop : ℕ) → StopDiskState D
going inner stop = record { inner = inner; stop = stop; made = 0; faults = 0 }

-- it has stopped; no number 0 stops it
abbrev pub has_stopped : {D : Type 0} → StopDiskState D → Bool
has_stopped s = nat_le 1 s.stop && nat_le s.stop s.made

-- it has stopped when one more of these calls has begun
abbrev pub stops_by : {D : Type 0} → StopDiskState D → Bool
stops_by s = nat_le 1 s.stop && nat_le s.stop (counted_by 1 s.made)

-- what the call at which it stops leaves: the first half of a write, rounded down, which itself
-- may fail
abbrev pub IsHalfWrite : (offset : ℕ) → List ℕ → (old new : DiskContents) → Type 0
IsHalfWrite offset bytes old new = (new ≡ after_write offset (take (length bytes / 2) bytes) old)
    ⊎ IsBrokenWrite offset (length bytes / 2) old new

-- before it has stopped a call fails only where the inner disk failed it
abbrev pub Passes : {D T E : Type 0} → (before now : DiskState) (old new : StopDiskState D)
    (result : Result T E) → Type 0
Passes before now old new result =
    (new.faults ≡ old.faults) × HasCause before.faults now.faults result
