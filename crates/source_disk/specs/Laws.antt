-- What a disk that stands for a log holds, in the words of the log. Each law is the contract of a
-- public function of laws.rt.
use Rattle.std.specs.Prelude.{◌≡◌, ℕ, ◌+◌, ◌<◌, ◌≤◌, List, length, slice_get, true, false, Some, None}
use Rattle.std.specs.Option.{IsSomeAnd}
use Rattle.sector_model.specs.Run.{in_runs, areas_of}
use Rattle.sector_model.specs.Sector.{zero_sector}
use Rattle.log_model.specs.declared.entry.Act.{Act}
use Rattle.log_model.specs.declared.entry.Entry.{Entry}
use Rattle.log_model.specs.Legal.{Disks, HasDisk, Legal, taken}
use Rattle.log_model.specs.Marks.{epoch}
use Rattle.log_model.specs.Refusals.{is_live}
use Rattle.source_disk.specs.SourceDisk.{SourceDiskState, number_of, capacity_of, epoch_of, has_snapshot, IsFree, contents_of, blocks_of, IsSameButRoom}
use Rattle.source_disk.specs.StandsFor.{StandsFor, Takes, concerns}
use Rattle.source_disk.specs.FromLog.{contents_told, allocated_told}

pub record HoldsTheLog (d : SourceDiskState) (log : List Entry) : Type 0 where
  -- what it holds now
  pub now : contents_of None d ≡ Some (contents_told None d log)
  -- which snapshots are live, and what each of these holds
  pub live : (s : ℕ) → has_snapshot s d ≡ is_live s log
  pub frozen : (s : ℕ) → is_live s log ≡ true
      → contents_of (Some s) d ≡ Some (contents_told (Some s) d log)
  pub gone : (s : ℕ) → is_live s log ≡ false → contents_of (Some s) d ≡ None
  -- what was touched before each
  pub areas : (s : ℕ) → is_live s log ≡ true → IsSomeAnd (blocks_of s d)
      (λ blocks. areas_of (capacity_of d) blocks ≡ allocated_told s d log)
  -- how often its tracking was reset, which is no more than the log has entries
  pub resets : epoch_of d ≡ epoch (number_of d) log
  pub few_resets : epoch_of d ≤ length log

abbrev pub StandingHolds : Type 0
StandingHolds = (d : SourceDiskState) (log : List Entry) → StandsFor d log → HoldsTheLog d log

-- the number of the next snapshot of a legal log is free
abbrev pub NextIsFree : Type 0
NextIsFree = (disks : Disks) (d : SourceDiskState) (log : List Entry) → Legal disks log
    → StandsFor d log → IsFree (taken log + 1) d

-- an act that doesn't concern the disk leaves it as it has to be
abbrev pub OthersPass : Type 0
OthersPass = (d : SourceDiskState) (act : Act) → concerns (number_of d) act ≡ false
    → Takes act d d

-- the room for later calls is no part of what a disk stands for
abbrev pub RoomIsNoPart : Type 0
RoomIsNoPart = (old new : SourceDiskState) (log : List Entry) → IsSameButRoom old new
    → StandsFor old log → StandsFor new log

-- outside the areas that were touched before a snapshot, the snapshot has zero sectors
abbrev pub UntouchedIsZero : Type 0
UntouchedIsZero = (disks : Disks) (d : SourceDiskState) (log : List Entry) (s sector : ℕ)
    → Legal disks log → HasDisk disks (number_of d) (capacity_of d) → sector < capacity_of d
    → in_runs (allocated_told s d log) sector ≡ false
    → slice_get (contents_told (Some s) d log) sector ≡ Some zero_sector
