-- The disk of a move: a source disk that was never written, to which the writes of the line are
-- applied, and which is frozen then. The snapshot is what is copied.
use Rattle.std.specs.Prelude.{◌≡◌, ℕ, ◌+◌, ◌≤◌, List, [], length, map, replicate, All, Option, Some, unwrap_or}
use Rattle.sector_model.specs.Sector.{filled}
use Rattle.sector_model.specs.Disk.{Write, fold_writes}
use Rattle.sector_model.specs.Run.{touched_blocks, areas_of, AreSpaced, end_of}
use Rattle.sector_model.specs.declared.sector.Sector.{Sector}
use Rattle.source_disk.specs.SourceDisk.{SourceDiskState, capacity_of, contents_of, blocks_of}
use Rattle.cmd_json.specs.declared.command.MoveWrite.{MoveWrite}
use Rattle.migrate_server.specs.Copy.{IsClearOutside}
use Rattle.migrate_server.specs.declared.written_disk.TheConstants.{SNAPSHOT}
use Rattle.migrate_server.specs.declared.written_disk.WrittenDisk.{WrittenDisk}

abbrev pub disk_write : MoveWrite → Write
disk_write w = record { first = w.first; sectors = replicate w.count (filled w.fill) }

abbrev pub disk_writes : List MoveWrite → List Write
disk_writes writes = map disk_write writes

-- what the disk holds: the fold of the writes
abbrev pub written_disk : (sectors : ℕ) → List MoveWrite → List Sector
written_disk sectors writes = fold_writes sectors (disk_writes writes)

-- the writes lie within a disk of c sectors
abbrev pub AreWithin : (c : ℕ) → List MoveWrite → Type 0
AreWithin c writes = All (λ w. w.first + w.count ≤ c) writes

-- a disk of c sectors to which these writes alone were applied, and which was never frozen
pub record IsWritten (c : ℕ) (writes : List MoveWrite) (d : SourceDiskState) : Type 0 where
  pub sized : capacity_of d ≡ c
  pub present : d.chain.present ≡ written_disk c writes
  pub blocks : d.chain.blocks ≡ touched_blocks c (disk_writes writes)
  pub snapshots : d.chain.snapshots ≡ []
  pub free_from : d.chain.free_from ≡ 0

-- such a disk, frozen then
pub record IsFrozenAfter (c : ℕ) (writes : List MoveWrite) (d : SourceDiskState) : Type 0 where
  pub sized : capacity_of d ≡ c
  pub contents : contents_of (Some SNAPSHOT) d ≡ Some (written_disk c writes)
  pub blocks : blocks_of SNAPSHOT d ≡ Some (touched_blocks c (disk_writes writes))

-- what the snapshot has
abbrev pub frozen_sectors : WrittenDisk → List Sector
frozen_sectors disk = unwrap_or (contents_of (Some SNAPSHOT) disk.source) []

-- the snapshot is live, and it is zero outside the allocated runs
pub record IsFrozen (disk : WrittenDisk) : Type 0 where
  pub live : contents_of (Some SNAPSHOT) disk.source ≡ Some (frozen_sectors disk)
  pub long : length (frozen_sectors disk) ≡ capacity_of disk.source
  pub spaced : AreSpaced disk.allocated
  pub inside : All (λ run. end_of run ≤ length (frozen_sectors disk)) disk.allocated
  pub clear : IsClearOutside disk.allocated (frozen_sectors disk)
