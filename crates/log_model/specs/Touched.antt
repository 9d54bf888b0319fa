-- Which blocks entries of a log touch: an entry those of which it replaces a sector, the entries
-- between two places those of any of them. Outside those a disk is the same at both places, so
-- whoever has the disk as at the first needs to copy nothing else.
use Rattle.std.specs.Prelude.{ℕ, ◌/◌, List, Bool, false, take, drop}
use Rattle.std.specs.List.{list_any}
use Rattle.std.specs.Option.{option_map_or}
use Rattle.sector_model.specs.Run.{touches, touched_blocks, areas_of}
use Rattle.sector_model.specs.declared.run.Run.{Run}
use Rattle.sector_model.specs.declared.run.TheConstants.{BLOCK_SECTORS}
use Rattle.log_model.specs.declared.entry.Entry.{Entry}
use Rattle.log_model.specs.Entry.{write_to, writes_of}

-- the entry touches the block of a sector of the disk
abbrev pub entry_touches : (disk sector : ℕ) → Entry → Bool
entry_touches disk sector e =
    option_map_or (touches (sector / BLOCK_SECTORS)) (write_to disk e.act) false

-- an entry of the log does
abbrev pub is_touched : (disk sector : ℕ) → List Entry → Bool
is_touched disk sector log = list_any (entry_touches disk sector) log

-- the entries from one place on, before another
abbrev pub between : (from end : ℕ) → List Entry → List Entry
between from end log = drop from (take end log)

-- the blocks of the disk of which a write among the entries replaces a sector, ascending
abbrev pub touched_by : (capacity disk : ℕ) → List Entry → List ℕ
touched_by capacity disk entries = touched_blocks capacity (writes_of disk entries)

-- those that writes between the places touch
abbrev pub touched : (capacity disk from end : ℕ) → List Entry → List ℕ
touched capacity disk from end log = touched_by capacity disk (between from end log)

-- their areas
abbrev pub touched_areas : (capacity disk from end : ℕ) → List Entry → List Run
touched_areas capacity disk from end log = areas_of capacity (touched capacity disk from end log)
