-- A disk's contents are the list of its sectors, and nothing else: a write replaces the sectors of
-- its range. So what writes leave of a disk is a fold, with which layers, snapshots and copies are
-- compared.
use Rattle.std.specs.Prelude.{ℕ, ◌+◌, ◌≤◌, List, length, replicate}
use Rattle.std.specs.List.{fold}
use Rattle.basics.specs.Replaced.{replaced}
use Rattle.sector_model.specs.Sector.{zero_sector}
use Rattle.sector_model.specs.declared.sector.Sector.{Sector}

-- the first sector of a write, and what it writes from there on
pub record Write : Type 0 where
  pub first : ℕ
  pub sectors : List Sector

-- the write lies within a disk of this capacity
abbrev pub Fits : (capacity : ℕ) → Write → Type 0
Fits capacity w = w.first + length w.sectors ≤ capacity

-- what a write leaves of a disk
abbrev pub after_write : (disk : List Sector) → Write → List Sector
after_write disk w = replaced disk w.first w.sectors

-- a disk that was never written
abbrev pub fresh_disk : (capacity : ℕ) → List Sector
fresh_disk capacity = replicate capacity zero_sector

-- what the writes, one after another, leave of a fresh disk
abbrev pub fold_writes : (capacity : ℕ) (writes : List Write) → List Sector
fold_writes capacity writes = fold after_write (fresh_disk capacity) writes
