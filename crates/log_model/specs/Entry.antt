-- What an entry does, and the writes that a log has for a disk. Each definition names each act, so
-- that an act that comes later has to be thought of here.
use Rattle.std.specs.Prelude.{ℕ, ◌==◌, List, length, take, Bool, true, false, Option, Some, None, if◌then◌else◌}
use Rattle.std.specs.List.{filter_map, count_by}
use Rattle.sector_model.specs.Disk.{Write as Replacement, fold_writes}
use Rattle.sector_model.specs.declared.sector.Sector.{Sector}
use Rattle.log_model.specs.declared.entry.Act.{Act}
use Rattle.log_model.specs.declared.entry.Act.TheVariants.{Write, Snap, Remove, Reset, Enable, Off, On}
use Rattle.log_model.specs.declared.entry.Entry.{Entry}
use Rattle.log_model.specs.declared.entry.TheConstants.{MIGRATION_CALLER}

-- the entry of an act of the caller that carries out migrations
abbrev pub entry_of : Act → Entry
entry_of act = record { who = MIGRATION_CALLER; act = act }

-- sectors are written
abbrev pub is_write : Act → Bool
is_write (Write disk first sectors) = true
is_write (Snap id owner) = false
is_write (Remove id) = false
is_write (Reset disk) = false
is_write Enable = false
is_write Off = false
is_write On = false

-- a snapshot is taken
abbrev pub is_snap : Act → Bool
is_snap (Write disk first sectors) = false
is_snap (Snap id owner) = true
is_snap (Remove id) = false
is_snap (Reset disk) = false
is_snap Enable = false
is_snap Off = false
is_snap On = false

-- this snapshot is taken
abbrev pub takes : (snapshot : ℕ) → Act → Bool
takes snapshot (Write disk first sectors) = false
takes snapshot (Snap id owner) = id == snapshot
takes snapshot (Remove id) = false
takes snapshot (Reset disk) = false
takes snapshot Enable = false
takes snapshot Off = false
takes snapshot On = false

-- this snapshot is removed
abbrev pub removes : (snapshot : ℕ) → Act → Bool
removes snapshot (Write disk first sectors) = false
removes snapshot (Snap id owner) = false
removes snapshot (Remove id) = id == snapshot
removes snapshot (Reset disk) = false
removes snapshot Enable = false
removes snapshot Off = false
removes snapshot On = false

-- the tracking of the disk is reset
abbrev pub resets : (disk : ℕ) → Act → Bool
resets disk (Write other first sectors) = false
resets disk (Snap id owner) = false
resets disk (Remove id) = false
resets disk (Reset other) = other == disk
resets disk Enable = false
resets disk Off = false
resets disk On = false

-- tracking is enabled
abbrev pub is_enable : Act → Bool
is_enable (Write disk first sectors) = false
is_enable (Snap id owner) = false
is_enable (Remove id) = false
is_enable (Reset disk) = false
is_enable Enable = true
is_enable Off = false
is_enable On = false

-- the machine is powered off
abbrev pub is_off : Act → Bool
is_off (Write disk first sectors) = false
is_off (Snap id owner) = false
is_off (Remove id) = false
is_off (Reset disk) = false
is_off Enable = false
is_off Off = true
is_off On = false

-- the machine is powered on
abbrev pub is_on : Act → Bool
is_on (Write disk first sectors) = false
is_on (Snap id owner) = false
is_on (Remove id) = false
is_on (Reset disk) = false
is_on Enable = false
is_on Off = false
is_on On = true

-- how many sectors are written
abbrev pub sectors_of : Act → ℕ
sectors_of (Write disk first sectors) = length sectors
sectors_of (Snap id owner) = 0
sectors_of (Remove id) = 0
sectors_of (Reset disk) = 0
sectors_of Enable = 0
sectors_of Off = 0
sectors_of On = 0

-- the write to the disk, where the act is one
abbrev pub write_to : (disk : ℕ) → Act → Option Replacement
write_to disk (Write other first sectors) =
    if other == disk then Some (record { first = first; sectors = sectors }) else None
write_to disk (Snap id owner) = None
write_to disk (Remove id) = None
write_to disk (Reset other) = None
write_to disk Enable = None
write_to disk Off = None
write_to disk On = None

-- the writes to the disk, in the order of the log
abbrev pub writes_of : (disk : ℕ) → List Entry → List Replacement
writes_of disk log = filter_map (λ e. write_to disk e.act) log

-- what the log leaves of the disk: zero sectors, in which each of its writes in order replaces its
-- range
abbrev pub contents : (capacity disk : ℕ) → List Entry → List Sector
contents capacity disk log = fold_writes capacity (writes_of disk log)

-- how many writes, of whatever disk, stand before a place of the log
abbrev pub writes_before : (place : ℕ) → List Entry → ℕ
writes_before place log = count_by (λ e. is_write e.act) (take place log)
