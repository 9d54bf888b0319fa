-- What the log of a machine says of one of its disks, by log_model's words.
use Rattle.std.specs.Prelude.{ℕ, List, Option, Some, None, Result}
use Rattle.sector_model.specs.declared.run.Run.{Run}
use Rattle.sector_model.specs.declared.sector.Sector.{Sector}
use Rattle.change_id.specs.declared.ChangeId.{ChangeId}
use Rattle.change_id.specs.declared.Since.{Since}
use Rattle.log_model.specs.declared.entry.Entry.{Entry}
use Rattle.log_model.specs.Entry.{contents}
use Rattle.log_model.specs.Marks.{mark, id_at}
use Rattle.log_model.specs.Frozen.{frozen}
use Rattle.log_model.specs.Touched.{touched_areas}
use Rattle.log_model.specs.Query.{changed_areas}
use Rattle.source_disk.specs.SourceDisk.{SourceDiskState, machine_of, number_of, capacity_of}

-- what a snapshot froze, or without one what the disk holds now
abbrev pub contents_told : Option ℕ → SourceDiskState → List Entry → List Sector
contents_told None d log = contents (capacity_of d) (number_of d) log
contents_told (Some snapshot) d log = frozen (capacity_of d) (number_of d) snapshot log

-- what was touched before the snapshot
abbrev pub allocated_told : (snapshot : ℕ) → SourceDiskState → List Entry → List Run
allocated_told snapshot d log =
    touched_areas (capacity_of d) (number_of d) 0 (mark snapshot log) log

-- the identifier at the snapshot
abbrev pub id_told : (snapshot : ℕ) → SourceDiskState → List Entry → Option ChangeId
id_told snapshot d log = id_at (machine_of d) (number_of d) snapshot log

-- what changed up to the snapshot, or the identifier in force
abbrev pub changes_told : (snapshot : ℕ) → Since → SourceDiskState → List Entry
    → Result (List Run) (Option ChangeId)
changes_told snapshot since d log =
    changed_areas (machine_of d) (capacity_of d) (number_of d) snapshot since log
